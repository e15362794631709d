use Rattle.xs_text_out.proofs.Laying.{rest_closed}
use Rattle.xs_text_out.proofs.pieces.push_rest.Goals as goal

pub returns-in_ok-end_piece : goal.returns-in_ok-end_piece
returns-in_ok-end_piece c = rest_closed c.args.begin c.args.all.now.items c.end_piece.new.all.items c.args.text.now c.requires.starts c.requires.within c.in_ok-end_piece.ensures.put
