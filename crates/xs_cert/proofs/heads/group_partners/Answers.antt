use Rattle.std.proofs.Common.{◌≡◌, [], ◌∷◌, ◌++◌, ap, sym, ◌∙◌}
use Rattle.xs_closed.specs.Rows.{marked}
use Rattle.xs_cert.specs.Heads.{is_open as is_open_by}
use Rattle.xs_cert.proofs.Ranges.{filter_more, filter_same}
use Rattle.xs_cert.proofs.heads.group_partners.Goals as goal
use Rattle.xs_cert.proofs.heads.group_partners.Goals.{then-is_open+in_ok-push, else-is_open}

pub others-preserved : goal.others-preserved
others-preserved c =
    let test = is_open_by c.args.nest.now (marked c.args.related.now) c.args.group in
    let low = c.others.auto.other in
    elim c.if-is_open.branch [
      | then-is_open+in_ok-push w ↦ ap (λ p. p.items) w.partners-is ∙ w.in_ok-push.ensures.items ∙ ap (λ ks. ks ++ c.others.other ∷ []) c.others.invariant ∙ sym (filter_more test c.args.group c.others.other low (sym c.is_open.ensures ∙ w.if-is_open.true))
      | else-is_open w ↦ ap (λ p. p.items) w.partners-is ∙ c.others.invariant ∙ sym (filter_same test c.args.group c.others.other low (sym c.is_open.ensures ∙ w.if-is_open.false))
    ]
