use Rattle.std.proofs.Common.{drop}
use Rattle.xs_parse_table.specs.Moves.{Says}
use Rattle.xs_parse_table.proofs.runs.says.Given as goal

abbrev pub invariant-atoms : goal.invariant-atoms
invariant-atoms l = Says l.cells l.count l.row (drop l.atom-index l.atoms) → Says l.cells l.count l.initial.row l.atoms
