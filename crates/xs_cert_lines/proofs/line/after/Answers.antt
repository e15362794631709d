use Rattle.std.proofs.lemmas.Bool.Decides.{Decides-eqb}
use Rattle.std.proofs.lemmas.Slice.Eq.{strip_prefix_is}
use Rattle.xs_cert_lines.proofs.Pieces.{piece_is}
use Rattle.xs_cert_lines.proofs.line.after.Goals as goal

pub returns : goal.returns
returns c = piece_is c.args.bytes.now c.args.piece.now c.strip_prefix.result (strip_prefix_is Decides-eqb c.args.bytes.now c.args.piece.now c.strip_prefix.result c.strip_prefix.ensures.cases)
