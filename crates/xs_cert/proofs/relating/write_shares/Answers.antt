use Rattle.std.proofs.Common.{◌≡◌, ◌++◌, map, flat_map, sym, ap, ◌∙◌, arith}
use Rattle.std.proofs.lemmas.List.{map-append}
use Rattle.xs_closed.specs.Rows.{marked}
use Rattle.xs_cert_lines.specs.Lines.{written}
use Rattle.xs_cert_laws.specs.Certificates.{share_line, between}
use Rattle.xs_cert.specs.Writing.{shares_of}
use Rattle.xs_cert.proofs.Ranges.{flat_more}
use Rattle.xs_cert.proofs.Adding.{adds_lines}
use Rattle.xs_cert.proofs.relating.write_shares.Goals as goal

pub firsts-preserved : goal.firsts-preserved
firsts-preserved c =
    let row = shares_of c.args.count (marked c.args.related.now) in
    let before = flat_map row (between 0 c.firsts.first) in
    let lines = ap (map share_line) (flat_more row 0 c.firsts.first (omega arith)) ∙ map-append share_line before (row c.firsts.first) in
    adds_lines c.args.out.now (map share_line before) (map share_line (row c.firsts.first)) c.firsts.invariant c.in_ok-write_share_row.ensures ∙ ap (λ ls. c.args.out.now ++ written ls) (sym lines)
