use Rattle.std.proofs.Common.{length, refl, eqb-true, eq-eqb}
use Rattle.xs_cert_lines.proofs.Pieces.{stands_last}
use Rattle.xs_cert_lines.proofs.line.is_last_line.Goals as goal

pub returns-in-Some : goal.returns-in-Some
returns-in-Some c =
    let bytes = c.args.bytes.now in
    let o = stands_last bytes c.args.start c.in-Some.end (length bytes) c.args.line.now refl c.in-Some.ensures.some in
    (λ same. o.0 (eqb-true c.in-Some.end (length bytes) same), λ is. eq-eqb c.in-Some.end (length bytes) (o.1 is))
