-- The pairs that a search has found, and the map in which they are marked.
use Rattle.std.specs.Prelude.{◌≡◌, ℕ, ◌+◌, ◌*◌, ◌<◌, ◌≤◌, true, false, List, [], ◌++◌, length, slice_get, Some}
use Rattle.std.specs.List.{All, Contains}
use Rattle.xs_auto.specs.Bits.{bit_of}
use Rattle.xs_coarse.specs.declared.pair.Pair.{Pair}
use Rattle.xs_coarse.specs.declared.found.Found.{Found}

-- a state of a first net and one of a second net
abbrev pub pair : ℕ → ℕ → Pair
pair a b = record { first = a; second = b }

-- the pair is one of them
abbrev pub HasPair : List Pair → ℕ → ℕ → Type 0
HasPair ps a b = Contains ps (pair a b)

-- the states of the pair are below those numbers
pub record IsInside (height width : ℕ) (p : Pair) : Type 0 where
  pub first : p.first < height
  pub second : p.second < width

-- the cell of a pair in the map
abbrev pub pair_cell : ℕ → Pair → ℕ
pair_cell width p = p.first * width + p.second

-- the cell is that of one of the pairs
pub record IsPairCell (width : ℕ) (ps : List Pair) (c : ℕ) : Type 0 where
  pub of : Pair
  pub has : Contains ps of
  pub is : c ≡ pair_cell width of

-- there is a bit for each pair of states, and the pairs are of such; no other is marked
pub record Fits (f : Found) : Type 0 where
  pub room : f.height * f.width ≤ 64 * length f.words.items
  pub inside : All (IsInside f.height f.width) f.pairs.items
  pub known : (c : ℕ) → bit_of f.words.items c ≡ true → IsPairCell f.width f.pairs.items c

-- the old pairs stand in front
pub record IsLonger (old new : List Pair) : Type 0 where
  pub added : List Pair
  pub is : new ≡ old ++ added

-- the map still fits, the numbers of states are the same, and no pair is forgotten
pub record IsMore (old new : Found) : Type 0 where
  pub fits : Fits new
  pub height : new.height ≡ old.height
  pub width : new.width ≡ old.width
  pub longer : IsLonger old.pairs.items new.pairs.items

-- the numbers of states are the same, there is as much room, and no pair is left, nor marked
pub record IsEmpty (old new : Found) : Type 0 where
  pub height : new.height ≡ old.height
  pub width : new.width ≡ old.width
  pub room : length new.words.items ≡ length old.words.items
  pub pairs : new.pairs.items ≡ []
  pub blank : (c : ℕ) → bit_of new.words.items c ≡ false

-- a pair is not among those before place k
abbrev pub IsNotBelow : Pair → ℕ → List Pair → Type 0
IsNotBelow goal k ps = (i : ℕ) → i < k → slice_get ps i ≡ Some goal → ⊥
