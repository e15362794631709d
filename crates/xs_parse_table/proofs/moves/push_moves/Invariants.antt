use Rattle.std.proofs.Common.{◌≡◌, ◌+◌, length}
use Rattle.xs_parse_table.specs.Rows.{AreLonger, AreChoices}
use Rattle.xs_parse_table.proofs.moves.push_moves.Given as goal

abbrev pub invariant-atoms : goal.invariant-atoms
invariant-atoms l =
    AreLonger l.initial.sets l.sets
    × AreLonger l.initial.cells.items l.cells.items
    × (length l.cells.items ≡ length l.initial.cells.items + l.atom)
    × AreChoices l.fn.atoms l.classes l.may l.start l.sets l.cells.items (length l.initial.cells.items) l.atom
