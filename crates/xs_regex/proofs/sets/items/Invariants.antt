use Rattle.std.proofs.Common.{◌≡◌, ℕ, List, Bor}
use Rattle.std.specs.declared.result.Result.{Result}
use Rattle.xs_regex.specs.declared.fault.RegexFault.{RegexFault}
use Rattle.xs_regex.specs.Characters.{items_at}
use Rattle.xs_regex.specs.Meaning.{IsOfItems}
use Rattle.xs_regex.specs.Reported.{IsReported, Adds}
use Rattle.xs_regex.proofs.sets.items.Given as goal

-- what is reported of the items from here on is reported of all
abbrev pub invariant-items : goal.invariant-items
invariant-items l = (new : List (ℕ × ℕ)) (r : Result (Bor (List ℕ)) RegexFault) →
    IsReported (items_at l.bound l.here) (λ a x. (a.1 ≡ x.now) × Adds l.into.items new (IsOfItems a.0)) r →
    IsReported (items_at l.steps l.cs) (λ a x. (a.1 ≡ x.now) × Adds l.initial.into.items new (IsOfItems a.0)) r

abbrev pub decreases-items : goal.decreases-items
decreases-items l = l.bound
