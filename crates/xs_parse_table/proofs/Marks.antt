-- Flags of positions, and the first symbol of a word.
use Rattle.std.proofs.Common.{◌≡◌, ℕ, zero, suc, ◌<◌, Bool, false, nat_eq, List, [], ◌∷◌, length, take, get_or, replicate, sym, ap, arith}
use Rattle.std.proofs.lemmas.Bool.{eq-eqb}
use Rattle.xs_regex.specs.Marked.{Marked}

pub is_unmarked : (n k : ℕ) → Marked (replicate n false) k → ⊥
is_unmarked zero k m = cc
is_unmarked (suc n) zero m = cc
is_unmarked (suc n) (suc k) m = is_unmarked n k m

pub filled : (w : List ℕ) (s : ℕ) → 0 < length w → s ≡ get_or w 0 s → take 1 w ≡ s ∷ []
filled [] s h e = absurd (omega arith)
filled (x ∷ w) s h e = ap (λ y. y ∷ []) (sym e)

-- a list that is tested not to be empty
pub some_from_test : (n : ℕ) (b : Bool) → b ≡ nat_eq n 0 → b ≡ false → 0 < n
some_from_test n b e f = grind (arith, eq-eqb)
