use Rattle.std.proofs.lemmas.List.{take_all}
use Rattle.xs_meet.specs.Sharing.{AreKnown}
use Rattle.xs_meet.proofs.TraceLemmas.{groups_more}
use Rattle.xs_meet.proofs.trace.groups_between.Goals as goal
use Rattle.xs_meet.proofs.trace.groups_between.Goals.{then-call-to+in_default, else-call-to}

pub calls-preserved : goal.calls-preserved
calls-preserved c = record {
  none = groups_more (AreKnown c.args.shared.now) c.args.calls.now c.args.others.now c.args.to.first c.args.to.second c.calls.call-index _ c.calls-test.true c.calls.invariant.none (λ e. elim c.if-call-to.branch [
    | then-call-to+in_default w ↦ w.in_default.ensures.none
    | else-call-to w ↦ absurd (w.if-call-to.false e)
  ]);
}

pub returns-clause-none : goal.returns-clause-none
returns-clause-none c = rw (take_all c.calls.call-index c.args.calls.now c.calls-test.false) at c.calls.invariant.none
