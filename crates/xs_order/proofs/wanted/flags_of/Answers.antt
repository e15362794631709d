use Rattle.xs_order.specs.Wanted.{HasWanted}
use Rattle.xs_order.proofs.Flags.{flags_more}
use Rattle.xs_order.proofs.wanted.flags_of.Goals as goal

pub leaves-preserved : goal.leaves-preserved
leaves-preserved c = rw c.in_ok-push.ensures.items (flags_more (HasWanted c.args.g.now c.args.kind c.args.wanted) c.leaves.leaf c.leaves.flags.items _ c.in_ok-has.ensures c.leaves.invariant)
