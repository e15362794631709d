use Rattle.xs_order.proofs.Clauses.{nons_more}
use Rattle.xs_order.proofs.rules.nons_of.Goals as goal

pub items-preserved : goal.items-preserved
items-preserved c = nons_more c.args.items.now c.items.item-index c.item-item.result c.items.nons c.add_non.new.nons c.items-test.true c.item-item.is c.items.invariant c.in_ok-add_non.ensures
