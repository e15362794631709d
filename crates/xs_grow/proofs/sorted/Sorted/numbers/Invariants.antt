use Rattle.xs_grow.specs.Lists.{Appends}
use Rattle.xs_grow.proofs.Sorting.{IsEarlierNumber}
use Rattle.xs_grow.proofs.sorted.Sorted.numbers.Given as goal

abbrev pub invariant-marks : goal.invariant-marks
invariant-marks l = Appends (IsEarlierNumber l.self l.label l.k) l.initial.out.items l.out.items
