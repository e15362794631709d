use Rattle.std.proofs.Common.{◌≤◌, length}
use Rattle.xs_gram.specs.Fences.{spread}
use Rattle.xs_check_laws.specs.Weights.{cap}
use Rattle.xs_loose.proofs.Stepping.{BodySummed}
use Rattle.xs_loose.proofs.weighing.body_weight.Given as goal

abbrev pub invariant-items : goal.invariant-items
invariant-items l = record {
  later : l.place ≤ l.next;
  within : l.next ≤ length (spread l.g l.rule);
  few : l.sum ≤ cap;
  summed : BodySummed l.g l.comps l.component (spread l.g l.rule) l.next l.sum;
}
