-- The answer is `Repeated` exactly where a row has the label.
use Rattle.std.proofs.Common.{◌≡◌, ℕ, ◌↔◌, Ok, Err, ap, subst}
use Rattle.std.specs.declared.result.Result.{Result}
use Rattle.xs_forest.specs.declared.fault.AddFault.{AddFault}
use Rattle.xs_forest.specs.declared.fault.AddFault.TheVariants.{Repeated, Memory}
use Rattle.xs_forest.specs.Rows.{Rows, HasLabel, AreOnce}

module _ {L : Type 0} (rows : Rows L) (label : L) where
  pub repeated : (at : ℕ) → AreOnce rows → HasLabel rows at label → (other : ℕ) → ◌≡◌ {A = Result ℕ AddFault} (Err (Repeated at)) (Err (Repeated other)) ↔ HasLabel rows other label
  repeated at once has other =
      ((λ e. let is : at ≡ other = cc in subst (λ n. HasLabel rows n label) is has), (λ there. ap (λ n. Err (Repeated n)) (once at other label has there)))

  pub not_refused : (number : ℕ) → ((at : ℕ) → HasLabel rows at label → ⊥) → (at : ℕ) → ◌≡◌ {A = Result ℕ AddFault} (Ok number) (Err (Repeated at)) ↔ HasLabel rows at label
  not_refused number none at = ((λ e. cc), (λ has. absurd (none at has)))

  pub no_memory : (answer : Result ℕ AddFault) → answer ≡ Err Memory → ((at : ℕ) → HasLabel rows at label → ⊥) → (at : ℕ) → (answer ≡ Err (Repeated at)) ↔ HasLabel rows at label
  no_memory answer is none at = ((λ e. cc), (λ has. absurd (none at has)))
