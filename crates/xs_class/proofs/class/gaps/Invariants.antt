use Rattle.xs_class.proofs.Merging.{IsGapped}
use Rattle.xs_class.proofs.class.gaps.Given as goal

abbrev pub invariant-gaps : goal.invariant-gaps
invariant-gaps l = IsGapped l.ranges l.range-index l.next l.between.items
