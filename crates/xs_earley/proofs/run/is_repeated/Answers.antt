use Rattle.std.proofs.Common.{◌≡◌, ◌+◌, suc, sym, ◌∙◌, ap, arith}
use Rattle.xs_chart.specs.Charted.{items_of}
use Rattle.xs_earley.proofs.run.is_repeated.Goals as goal

pub returns-in-Some : goal.returns-in-Some
returns-in-Some c =
    let next : c.args.at + 1 ≡ suc c.args.at = omega arith in
    let first : c.items.result.now ≡ items_of c.args.chart.now (suc c.args.at) = c.items.ensures ∙ ap (items_of c.args.chart.now) next in
    let second = c.items-in-Some.ensures in
    let both = c.are_unbegun.ensures.0 c.if-not-are_unbegun.false in (
      (λ t. ((c.in-Some.field-0, c.in-Some.is), sym c.list.ensures ∙ both.0, both.1, sym first ∙ c.are_same.ensures.0 t ∙ second)),
      (λ h. c.are_same.ensures.1 (first ∙ h.3 ∙ sym second)),
    )
