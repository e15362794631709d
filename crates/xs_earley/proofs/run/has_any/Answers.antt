use Rattle.std.proofs.Common.{◌∙◌, sym, arith, below_more, subst}
use Rattle.std.specs.Prelude.{Contains}
use Rattle.std.proofs.lemmas.Bool.{false≢true}
use Rattle.std.proofs.lemmas.List.{get_or_default}
use Rattle.xs_chart.specs.Charted.{items_of, item_from}
use Rattle.xs_earley.proofs.run.has_any.Goals as goal

pub states-preserved : goal.states-preserved
states-preserved c = below_more _ _ c.states.invariant (λ h. false≢true (sym c.if-has.false ∙ c.has.ensures.1 h))

pub returns : goal.returns
returns c = (
  (λ t. absurd (false≢true t)),
  (λ h.
      let states = c.args.states.now in
      let n = h.1.0 in
      let lt = h.1.1 in
      let is = get_or_default states n 0 h.0 lt ∙ h.1.2 in
      absurd (c.states.invariant n (omega (arith, lt)) (subst (λ k. Contains (items_of c.args.chart.now c.args.at) (item_from 0 k)) (sym is) h.2))),
)
