use Rattle.std.proofs.Common.{◌≡◌, suc, [], ◌∷◌, ◌++◌, ap, sym, ◌∙◌, arith}
use Rattle.xs_cert.specs.Heads.{is_of_one}
use Rattle.xs_cert.proofs.Ranges.{filter_more, filter_same}
use Rattle.xs_cert.proofs.heads.rule_partners.Goals as goal
use Rattle.xs_cert.proofs.heads.rule_partners.Goals.{then-are_of_one+in_ok-push, else-are_of_one}

pub others-preserved : goal.others-preserved
others-preserved c =
    let test = is_of_one c.args.g.now c.args.rule in
    elim c.if-are_of_one.branch [
      | then-are_of_one+in_ok-push w ↦ ap (λ p. p.items) w.partners-is ∙ w.in_ok-push.ensures.items ∙ ap (λ ks. ks ++ c.others.other ∷ []) c.others.invariant ∙ sym (filter_more test (suc c.args.rule) c.others.other (omega (arith, c.others.auto.other)) (sym c.are_of_one.ensures ∙ w.if-are_of_one.true))
      | else-are_of_one w ↦ ap (λ p. p.items) w.partners-is ∙ c.others.invariant ∙ sym (filter_same test (suc c.args.rule) c.others.other (omega (arith, c.others.auto.other)) (sym c.are_of_one.ensures ∙ w.if-are_of_one.false))
    ]
