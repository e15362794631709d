use Rattle.std.proofs.Common.{List, ℕ, length, false, true}
use Rattle.xs_form.specs.Values.{IsSoFar}
use Rattle.xs_form.proofs.values.value_from.Given as goal

abbrev pub invariant-parts : goal.invariant-parts
invariant-parts l = (text : List ℕ) → IsSoFar l.quote text l.run false true l.fn.rest → IsSoFar l.quote text l.symbols l.after_return l.written l.left

abbrev pub decreases-parts : goal.decreases-parts
decreases-parts l = length l.left
