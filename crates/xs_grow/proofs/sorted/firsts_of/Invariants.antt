use Rattle.xs_grow.specs.Sorted.{AreFirsts}
use Rattle.xs_grow.proofs.sorted.firsts_of.Given as goal

abbrev pub invariant-marks : goal.invariant-marks
invariant-marks l = AreFirsts l.marks l.k l.firsts.items
