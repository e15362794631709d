use Rattle.std.proofs.Common.{◌≡◌, take}
use Rattle.xs_outline.specs.Shapes.{names_of}
use Rattle.xs_outline.specs.Tables.{name_list}
use Rattle.xs_outline.proofs.slot_table.names_in.Given as goal

abbrev pub invariant-slots : goal.invariant-slots
invariant-slots l = name_list l.names.keys ≡ take l.slot (names_of l.two l.rule)
