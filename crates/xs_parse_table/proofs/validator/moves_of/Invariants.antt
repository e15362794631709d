use Rattle.std.proofs.Common.{◌≡◌, ℕ, ◌<◌, length, Some}
use Rattle.std.specs.Prelude.{slice_get}
use Rattle.xs_parse_table.specs.Moves.{AreMoves}
use Rattle.xs_parse_table.specs.Rows.{AreLonger, automaton_of}
use Rattle.xs_parse_table.proofs.validator.moves_of.Given as goal

abbrev pub invariant-leaves : goal.invariant-leaves
invariant-leaves l =
    AreLonger l.initial.cells.items l.cells.items
    × (length l.starts.items ≡ l.leaf)
    × ((k start : ℕ) → k < l.leaf → slice_get l.starts.items k ≡ Some (Some start) → AreMoves (automaton_of l.g l.kind k) l.atoms l.cells.items start)
