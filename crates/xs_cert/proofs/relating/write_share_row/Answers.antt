use Rattle.std.proofs.Common.{◌≡◌, ℕ, [], ◌∷◌, ◌++◌, map, filter, sym, ap, ◌∙◌, arith}
use Rattle.std.proofs.lemmas.List.{map-append}
use Rattle.xs_closed.specs.Rows.{marked}
use Rattle.xs_cert_lines.specs.Lines.{written}
use Rattle.xs_cert_laws.specs.Certificates.{share_line, between}
use Rattle.xs_cert.proofs.Ranges.{filter_more, filter_same}
use Rattle.xs_cert.proofs.Adding.{adds_line}
use Rattle.xs_cert.proofs.relating.write_share_row.Goals as goal
use Rattle.xs_cert.proofs.relating.write_share_row.Goals.{then-has+in_ok-write_pair, else-has}

pub seconds-preserved : goal.seconds-preserved
seconds-preserved c =
    let first = c.args.first in
    let second = c.seconds.second in
    let test = marked c.args.related.now first in
    let before = filter test (between first second) in
    elim c.if-has.branch [
      | then-has+in_ok-write_pair w ↦
          let more = filter_more test first second c.seconds.auto.second (sym c.has.ensures ∙ w.if-has.true) in
          let lines = ap (map share_line) (ap (map (λ k. (first, k))) more ∙ map-append (λ k. (first, k)) before (second ∷ [])) ∙ map-append share_line (map (λ k. (first, k)) before) ((first, second) ∷ []) in
          adds_line c.args.out.now (map share_line (map (λ k. (first, k)) before)) (share_line (first, second)) c.seconds.invariant (w.out-is ∙ w.in_ok-write_pair.ensures.ok) ∙ ap (λ ls. c.args.out.now ++ written ls) (sym lines)
      | else-has w ↦
          let same = filter_same test first second c.seconds.auto.second (sym c.has.ensures ∙ w.if-has.false) in
          w.out-is ∙ c.seconds.invariant ∙ ap (λ ks. c.args.out.now ++ written (map share_line (map (λ k. (first, k)) ks))) (sym same)
    ]
