use Rattle.xs_text_out.proofs.Counting.{lengths_all}
use Rattle.xs_text_out.proofs.walk.print_piece.Goals as goal

pub child_at-requires-clause-lengths : goal.child_at-requires-clause-lengths
child_at-requires-clause-lengths c = lengths_all c.args.g.now c.args.t.now.parts c.args.lengths.now c.requires.lengths
