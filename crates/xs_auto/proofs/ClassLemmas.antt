-- Ranges that rise.
use Rattle.std.proofs.Common.{ℕ, ◌+◌, ◌≤◌, List, [], ◌∷◌, inl, inr, arith}
use Rattle.xs_class.specs.Classes.{Has, RisesFrom}

-- no symbol of ranges that rise from low on is below it
pub above : (low : ℕ) (xs : List (ℕ × ℕ)) → RisesFrom low xs → (s : ℕ) → Has xs s → low ≤ s
above low [] r s h = absurd h
above low (x ∷ xs) r s (inl h) = omega (arith, r, h)
above low (x ∷ xs) r s (inr h) = let k = above (x.1 + 2) xs r.3 s h in omega (arith, r, k)
