use Rattle.std.proofs.Common.{◌≡◌, ◌<◌, ◌∙◌, ℕ, length, sym, ap, subst, arith}
use Rattle.xs_gram.specs.Places.{at_dot}
use Rattle.xs_chart_laws.specs.Charts.{IsNumber}
use Rattle.xs_earley.specs.Starts.{AreEnds}
use Rattle.xs_earley.proofs.Tables.{ends_more, ends_other}
use Rattle.xs_earley.proofs.facts.ends_of.Goals as goal
use Rattle.xs_earley.proofs.facts.ends_of.Goals.{then-non_of-start+in_ok-push, else-non_of-start}

pub rules-preserved : goal.rules-preserved
rules-preserved c =
    let g = c.args.g.now in
    let count = c.rules.rule in
    let ends = c.rules.ends.items in
    let lt : count < length g.rules = omega arith in
    elim c.if-non_of-start.branch [
      | then-non_of-start+in_ok-push w ↦
          let is = sym c.non_of.ensures ∙ w.if-non_of-start.true ∙ c.start.ensures in
          let dot = ap length w.items.ensures.items in
          let number = subst (λ n. IsNumber g w.number.result (at_dot count n)) dot w.number.ensures.found in
          let once = subst (λ n. (k : ℕ) → IsNumber g k (at_dot count n) → k ≡ w.number.result) dot w.number.ensures.once in
          rw (w.ends-is, w.in_ok-push.ensures.items) (ends_more g count w.number.result ends lt is number once c.rules.invariant)
      | else-non_of-start w ↦
          rw w.ends-is (ends_other g count ends (λ e. w.if-non_of-start.false (c.non_of.ensures ∙ e ∙ sym c.start.ensures)) c.rules.invariant)
    ]

pub returns : goal.returns
returns c =
    let g = c.args.g.now in
    let e : c.rules.rule ≡ length g.rules = omega arith in
    subst (λ n. AreEnds g n c.rules.ends.items) e c.rules.invariant
