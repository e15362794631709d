use Rattle.std.proofs.Common.{◌∙◌}
use Rattle.xs_outline.proofs.SlotTables.{position_is_place, turned_test}
use Rattle.xs_outline.proofs.slot_table.SlotTable.place.Goals as goal

pub returns-else-len-le-FEW : goal.returns-else-len-le-FEW
returns-else-len-le-FEW c = c.get_index_of.ensures.index ∙ position_is_place _ c.args.name.now c.args.self.now.names.keys (λ k. turned_test c.args.name.now k.items)
