use Rattle.xs_sheet.proofs.Pieced.{pieces_more}
use Rattle.xs_sheet.proofs.pieces.pieces.Goals as goal

pub tokens-preserved : goal.tokens-preserved
tokens-preserved c = pieces_more c.args.bytes.now c.args.list.now c.tokens.token-index _ c.tokens.all.items c.push.new.self.items c.in_ok-piece.piece c.tokens-test.true c.tokens.invariant c.in_ok-piece.ensures c.in_ok-push.ensures.items
