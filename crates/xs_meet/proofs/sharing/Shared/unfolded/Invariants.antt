use Rattle.std.proofs.Common.{take}
use Rattle.xs_meet.specs.Spelling.{IsUnfolded}
use Rattle.xs_meet.proofs.sharing.Shared.unfolded.Given as goal

abbrev pub invariant-pieces : goal.invariant-pieces
invariant-pieces l = record { so_far : IsUnfolded l.nest l.self.rows l.place (take l.piece-index l.pieces) l.all.items }
