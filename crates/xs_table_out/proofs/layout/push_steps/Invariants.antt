use Rattle.std.proofs.Common.{◌≡◌, ◌++◌, map, take}
use Rattle.xs_table_out.specs.Steps.{step_of}
use Rattle.xs_table_out.proofs.layout.push_steps.Given as goal

abbrev pub invariant-pieces : goal.invariant-pieces
invariant-pieces l = l.all.items ≡ l.initial.all.items ++ map (step_of l.items) (take l.piece-index l.pieces)
