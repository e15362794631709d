use Rattle.std.proofs.Common.{arith}
use Rattle.xs_atoms.proofs.Fixing.{item_pushed}
use Rattle.xs_atoms.proofs.fixed.push_items.Goals as goal

pub items-preserved : goal.items-preserved
items-preserved c = item_pushed c.items.ranges.items c.push_item.new.ranges.items c.args.ranges.now.items c.args.items.now c.items.item-index c.item-item.result (omega arith) c.item-item.is c.items.invariant c.in_ok-push_item.ensures
