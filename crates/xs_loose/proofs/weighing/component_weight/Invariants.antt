use Rattle.std.proofs.Common.{ℕ, ◌≤◌}
use Rattle.xs_check_laws.specs.Weights.{cap}
use Rattle.xs_loose.specs.Components.{IsNonOf}
use Rattle.xs_loose.proofs.Summing.{AreSummed}
use Rattle.xs_loose.proofs.weighing.component_weight.Given as goal

abbrev pub invariant-rules : goal.invariant-rules
invariant-rules l = record {
  few : l.sum ≤ cap;
  summed : (c : ℕ) → IsNonOf l.g l.comps l.component c → AreSummed l.g l.rules l.rule-index c l.sum;
}
