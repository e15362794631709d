use Rattle.std.proofs.Common.{length, ◌-◌, ◌+◌}
use Rattle.xs_class.proofs.Merging.{IsMet}
use Rattle.xs_class.proofs.class.common.Given as goal

abbrev pub invariant-pairs : goal.invariant-pairs
invariant-pairs l = IsMet l.a l.b l.i l.j l.ranges.items

abbrev pub decreases-pairs : goal.decreases-pairs
decreases-pairs l = (length l.a - l.i) + (length l.b - l.j)
