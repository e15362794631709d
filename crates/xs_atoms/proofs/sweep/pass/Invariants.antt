use Rattle.std.proofs.Common.{length}
use Rattle.xs_atoms.proofs.Sweeping.{IsSweeping}
use Rattle.xs_atoms.proofs.sweep.pass.Given as goal

abbrev pub invariant-turns : goal.invariant-turns
invariant-turns l = IsSweeping l.turns (length l.initial.row) l.turn-index l.row l.start l.draft
