use Rattle.xs_pair.specs.Marks.{shown}
use Rattle.xs_pair.proofs.Twins.{AreSame}
use Rattle.xs_pair.proofs.slots.names_differ.Given as goal

abbrev pub invariant-slots : goal.invariant-slots
invariant-slots l = AreSame (shown l.left) (shown l.right) l.slot-index
