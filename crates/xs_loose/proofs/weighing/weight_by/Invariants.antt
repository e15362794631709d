use Rattle.std.proofs.Common.{◌-◌, ◌≤◌}
use Rattle.xs_loose.specs.Parts.{part_items}
use Rattle.xs_loose.proofs.Stepping.{PartSummed}
use Rattle.xs_loose.proofs.weighing.weight_by.Given as goal

abbrev pub invariant-items : goal.invariant-items
invariant-items l = record {
  within : l.place ≤ l.part.end;
  summed : PartSummed l.g l.part.start (part_items l.g l.part) l.place l.sum;
}

abbrev pub decreases-items : goal.decreases-items
decreases-items l = l.part.end - l.place
