-- Rounds that try which groups of a nest share a word.
use Rattle.std.specs.Prelude.{◌≡◌, ℕ, ◌<◌, ◌≤◌, Bool, true, false, List}
use Rattle.xs_auto.specs.Nests.{Group, IsFenced}
use Rattle.xs_meet.specs.Closed.{AreSettled}
use Rattle.xs_meet.specs.Sharing.{Sharing, AreKnown, IsSharing, HasRoom, left_over}

-- a round can go on: the nest is fenced, there are as many cells as the contents of two groups take,
-- and groups that are known to share a word do
pub record CanTry (nest : List Group) (cells : ℕ) (s : Sharing) : Type 0 where
  pub fenced : IsFenced nest
  pub room : HasRoom nest cells
  pub sharing : IsSharing nest s

-- the groups that P means were tried: either some were found to share a word, or all is as it was
-- and each two of them are settled
pub record Tries (nest : List Group) (P : ℕ → ℕ → Type 0) (old new : Sharing) (grown : Bool) : Type 0 where
  pub sharing : IsSharing nest new
  pub no_more : left_over new ≤ left_over old
  pub less : grown ≡ true → left_over new < left_over old
  pub same : grown ≡ false → new ≡ old
  pub settled : grown ≡ false → (g h : ℕ) → P g h → AreSettled nest (AreKnown old) g h

-- what is known is so, and no less than before
pub record Finds (nest : List Group) (old new : Sharing) : Type 0 where
  pub sharing : IsSharing nest new
  pub no_more : left_over new ≤ left_over old

-- g and h are these two
pub record AreThese (first second g h : ℕ) : Type 0 where
  pub is_first : g ≡ first
  pub is_second : h ≡ second

-- g is this one, and h is from it on and below n
pub record AreFrom (first n g h : ℕ) : Type 0 where
  pub is_first : g ≡ first
  pub order : first ≤ h
  pub low : h < n

-- g is below k, and h is from g on and below n
pub record AreWithin (k n g h : ℕ) : Type 0 where
  pub before : g < k
  pub order : g ≤ h
  pub low : h < n
