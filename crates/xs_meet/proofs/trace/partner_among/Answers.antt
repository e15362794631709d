use Rattle.std.proofs.Common.{sym, ◌∙◌}
use Rattle.std.proofs.lemmas.Bool.{true≢false}
use Rattle.std.proofs.lemmas.List.{take_all}
use Rattle.xs_meet.specs.Sharing.{AreKnown}
use Rattle.xs_meet.proofs.TraceLemmas.{calls_more}
use Rattle.xs_meet.proofs.trace.partner_among.Goals as goal
use Rattle.xs_meet.proofs.trace.partner_among.Goals.{then-other-to+else-has, else-other-to}

pub others-preserved : goal.others-preserved
others-preserved c = record {
  none = calls_more (AreKnown c.args.shared.now) c.args.group c.args.others.now c.args.to c.others.other-index _ c.others-test.true c.others.invariant.none (λ e r. elim c.if-other-to.branch [
    | then-other-to+else-has w ↦ true≢false (sym r ∙ sym w.has.ensures ∙ w.if-has.false)
    | else-other-to w ↦ w.if-other-to.false e
  ]);
}

pub returns-clause-none : goal.returns-clause-none
returns-clause-none c = rw (take_all c.others.other-index c.args.others.now c.others-test.false) at c.others.invariant.none
