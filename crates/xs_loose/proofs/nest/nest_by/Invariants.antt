use Rattle.xs_loose.specs.Nesting.{IsNestBefore}
use Rattle.xs_loose.proofs.nest.nest_by.Given as goal

abbrev pub invariant-rules : goal.invariant-rules
invariant-rules l = IsNestBefore l.g l.rule 0 l.nest
