-- What a class of symbols is.
use Rattle.std.specs.Prelude.{ℕ, ◌+◌, ◌≤◌, ◌<◌, ◌^◌, ◌↔◌, ◌⊎◌, List, [], ◌∷◌}

-- the symbol is in the range, whose ends belong to it
abbrev pub IsIn : ℕ × ℕ → ℕ → Type 0
IsIn r s = (r.0 ≤ s) × (s ≤ r.1)

-- the symbol is in one of the ranges
abbrev pub Has : List (ℕ × ℕ) → ℕ → Type 0
Has [] s = ⊥
Has (r ∷ rs) s = IsIn r s ⊎ Has rs s

-- the ranges have the same symbols
abbrev pub HaveSame : List (ℕ × ℕ) → List (ℕ × ℕ) → Type 0
HaveSame xs ys = (s : ℕ) → Has xs s ↔ Has ys s

-- the symbol is in one of the ranges, and no smaller one is
abbrev pub IsLeast : List (ℕ × ℕ) → ℕ → Type 0
IsLeast rs s = Has rs s × ((t : ℕ) → Has rs t → s ≤ t)

-- the ranges rise from low on, none is reversed, and between neighbours lies a symbol of neither
abbrev pub RisesFrom : ℕ → List (ℕ × ℕ) → Type 0
RisesFrom low [] = Unit {0}
RisesFrom low (r ∷ rs) = (low ≤ r.0) × (r.0 ≤ r.1) × (r.1 < 2 ^ 32) × RisesFrom (r.1 + 2) rs

-- the ranges are sorted, disjoint, and no two of them touch
abbrev pub IsClass : List (ℕ × ℕ) → Type 0
IsClass rs = RisesFrom 0 rs

-- each of the ranges begins at or below the symbol
abbrev pub BeginBy : ℕ → List (ℕ × ℕ) → Type 0
BeginBy s [] = Unit {0}
BeginBy s (r ∷ rs) = (r.0 ≤ s) × BeginBy s rs

-- the new ranges have the symbols of the old ones and of one more range, and none begins after that one
pub record IsAdded (old : List (ℕ × ℕ)) (r : ℕ × ℕ) (new : List (ℕ × ℕ)) : Type 0 where
  pub sorted : IsClass new
  pub begun : BeginBy r.0 new
  pub members : (s : ℕ) → Has new s ↔ (Has old s ⊎ IsIn r s)
