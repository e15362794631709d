use Rattle.xs_class.proofs.Sets.{members_of_set}
use Rattle.xs_class.proofs.named.class_of.Goals as goal

pub returns : goal.returns
returns c =
    members_of_set c.in_ok-ranges.ranges.items c.in_ok-class.class c.args.set c.in_ok-ranges.ensures.members c.in_ok-ranges.ensures.valid (rw c.deref.ensures.value at c.in_ok-class.ensures)
