-- What stands in no row before p, and in row p in no column before q, stands nowhere before p and q.
use Rattle.std.proofs.Common.{◌≡◌, ℕ, Option, None, Some, IfNone, refl, inl, inr, subst}
use Rattle.xs_check_laws.specs.Acceptance.{IsBefore}
use Rattle.xs_searches.specs.First.{HasNoneInRow, HasNoneInRows}

pub none_before : (P : ℕ → ℕ → Type 0) (p q : ℕ) → HasNoneInRows P p → HasNoneInRow P p q → (r s : ℕ) → P r s → IsBefore r s p q → ⊥
none_before P p q rows row r s h (inl less) = rows r less s h
none_before P p q rows row r s h (inr same) = row s same.1 (subst (λ (k : ℕ). P k s) same.0 h)

-- what holds where there is no value, where there is none
pub at_none : {X P : Type 0} (o : Option X) → ((x : X) → o ≡ Some x → ⊥) → IfNone o P → P
at_none None none h = h
at_none (Some x) none h = absurd (none x refl)
