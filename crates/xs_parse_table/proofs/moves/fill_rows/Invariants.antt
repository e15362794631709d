use Rattle.xs_parse_table.proofs.Building.{AreRows}
use Rattle.xs_parse_table.proofs.moves.fill_rows.Given as goal

abbrev pub invariant-rows : goal.invariant-rows
invariant-rows l = AreRows l.p l.atoms l.initial.cells.items l.start l.sets l.cells.items l.row
