use Rattle.xs_class.proofs.Merging.{IsJoined}
use Rattle.xs_class.proofs.class.joined.Given as goal

abbrev pub invariant-sorted : goal.invariant-sorted
invariant-sorted l = IsJoined l.sorted l.range-index l.ranges.items
