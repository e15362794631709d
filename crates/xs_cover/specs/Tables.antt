-- Tables of numbers.
use Rattle.std.specs.Prelude.{◌≡◌, ℕ, ◌<◌, List, Bool, true, false, slice_index_or, sum_by}

-- the number at a place, 0 where there is none
abbrev pub at : List ℕ → ℕ → ℕ
at numbers k = slice_index_or numbers k 0

abbrev pub total : List ℕ → ℕ
total numbers = sum_by (λ n. n) numbers

-- whether numbers were lowered: then their sum is less, and else all are what they were
pub record IsLowered (lowered : Bool) (old new : List ℕ) : Type 0 where
  pub less : lowered ≡ true → total new < total old
  pub kept : lowered ≡ false → new ≡ old
