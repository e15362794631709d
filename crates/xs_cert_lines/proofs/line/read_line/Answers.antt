use Rattle.xs_cert_lines.proofs.Pieces.{no_line, line_stands}
use Rattle.xs_cert_lines.proofs.line.read_line.Goals as goal

pub returns-in_err-rest-clause-none : goal.returns-in_err-rest-clause-none
returns-in_err-rest-clause-none c = rw c.from_residual-in_err-rest.ensures (no_line c.args.bytes.now c.args.start c.from_byte-front.result.now c.args.line.now c.in_ok-end.end.now c.from_byte-front.ensures c.in_ok-end.ensures c.in_err-rest.ensures)

pub returns-clause-some : goal.returns-clause-some
returns-clause-some c = line_stands c.args.bytes.now c.args.start c.from_byte-front.result.now c.args.line.now c.in_ok-end.end.now c.in_ok-rest.rest.now c.requires c.from_byte-front.ensures c.in_ok-end.ensures c.in_ok-rest.ensures
