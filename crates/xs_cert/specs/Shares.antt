-- Lines of groups that are said to share a word, and how they are read pair by pair.
use Rattle.std.specs.Prelude.{◌≡◌, ◌⊎◌, ℕ, suc, ◌+◌, ◌<◌, ◌≤◌, ◌||◌, List, [], ◌∷◌, ◌++◌, length, map}
use Rattle.std.specs.List.{All}
use Rattle.xs_auto.specs.Nests.{Group}
use Rattle.xs_gram.specs.Grammar.{Grammar}
use Rattle.xs_check_laws.specs.Acceptance.{IsBefore}
use Rattle.xs_cert_lines.specs.Lines.{Lines}
use Rattle.xs_closed.specs.Rows.{Grid, marked}
use Rattle.xs_cert_laws.specs.Certificates.{IsFencePair, is_shared, Shares, heads, share_line}
use Rattle.xs_cert.specs.declared.place.Place.{Place}
use Rattle.xs_cert.specs.Places.{IsPast}
use Rattle.xs_cert.specs.Ways.{Tail, TailWays, LeadsTo, BlockWays}

-- the pair of a and b is that of h and k, or comes after it
abbrev pub IsNotBefore : ℕ → ℕ → ℕ → ℕ → Type 0
IsNotBefore h k a b = (h < a) ⊎ ((h ≡ a) × (k ≤ b))

-- pairs of groups of one fence, in ascending order from the pair of h and k on
abbrev pub AreFrom : List Group → ℕ → ℕ → List (ℕ × ℕ) → Type 0
AreFrom nest h k [] = Unit {0}
AreFrom nest h k (s ∷ ss) = IsFencePair nest s.0 s.1 × IsNotBefore h k s.0 s.1 × AreFrom nest s.0 (suc s.1) ss

-- lines of pairs from that of h and k on, after those of pairs that were read, and then blocks and
-- what T says
pub record ShareWays (g : Grammar) (nest : List Group) (T : Lines → List ℕ → ℕ → Type 0) (done : List (ℕ × ℕ)) (h k : ℕ) (ls : Lines) (rest : List ℕ) (j : ℕ) : Type 0 where
  pub shares : List (ℕ × ℕ)
  pub later : Lines
  pub count : ℕ
  pub ordered : AreFrom nest h k shares
  pub way : BlockWays g nest (Shares (done ++ shares)) T (heads g nest (done ++ shares)) later rest count
  pub is : ls ≡ map share_line shares ++ later
  pub counts : j ≡ length shares + count

-- the lines of the pairs from that of h and k on, before that of a and b, were read up to place q,
-- and marked in both orders
pub record AreSharesRead (nest : List Group) (bytes : List ℕ) (p : Place) (h k : ℕ) (q : Place) (a b : ℕ) (old new : Grid) : Type 0 where
  pub shares : List (ℕ × ℕ)
  pub ordered : AreFrom nest h k shares
  pub before : All (λ s. IsBefore s.0 s.1 a b) shares
  pub past : IsPast bytes p (map share_line shares) q
  pub high : length new.rows ≡ length old.rows
  pub wide : new.wide ≡ old.wide
  pub marks : (c d : ℕ) → marked new c d ≡ (marked old c d || is_shared shares c d)
  pub leads : (g : Grammar) (tail : Tail) (done : List (ℕ × ℕ)) → LeadsTo bytes p (ShareWays g nest (TailWays tail) done h k) q (ShareWays g nest (TailWays tail) (done ++ shares) a b)
