use Rattle.std.proofs.Common.{List, take}
use Rattle.xs_auto.specs.Nests.{Group}
use Rattle.xs_meet.specs.Pieces.{Spells}
use Rattle.xs_meet.proofs.sharing.spelling.symbols_of.Given as goal

abbrev pub invariant-pieces : goal.invariant-pieces
invariant-pieces l = record { spelt : (nest : List Group) → Spells nest (take l.piece-index l.pieces) l.word }
