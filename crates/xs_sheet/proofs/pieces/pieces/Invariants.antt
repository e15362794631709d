use Rattle.std.proofs.Common.{take, map}
use Rattle.xs_lex.specs.Reading.{lexeme_of}
use Rattle.xs_sheet.specs.Pieces.{ArePieces}
use Rattle.xs_sheet.proofs.pieces.pieces.Given as goal

abbrev pub invariant-tokens : goal.invariant-tokens
invariant-tokens l = ArePieces (map (lexeme_of l.bytes) (take l.token-index l.list)) l.all.items
