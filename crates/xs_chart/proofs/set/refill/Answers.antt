use Rattle.std.proofs.Common.{arith}
use Rattle.xs_chart.proofs.Different.{different_none, added_all}
use Rattle.xs_chart.proofs.set.refill.Goals as goal

pub items-init : goal.items-init
items-init c = record { items = c.clear.ensures.empty; different = rw c.clear.ensures.empty different_none }

pub items-preserved : goal.items-preserved
items-preserved c = record {
  items = added_all c.args.items.now c.items.item-index (omega arith) c.items.set.keys c.add.new.set.keys c.in_ok-add.field-0 c.requires c.items.invariant.items c.in_ok-add.ensures.added c.in_ok-add.ensures.items;
  different = c.in_ok-add.ensures.different;
}
