use Rattle.std.proofs.Common.{get_or, refl}
use Rattle.xs_meet.specs.Closed.{Marked}
use Rattle.xs_closed.specs.Rows.{marked}
use Rattle.xs_closed.specs.Search.{OneOf, Joins}
use Rattle.xs_closed.proofs.NeedLemmas.{one_read, one_all, one_lacks, no_call}
use Rattle.xs_closed.proofs.testing.steps.calls_need.Goals as goal

pub returns-in_err-need : goal.returns-in_err-need
returns-in_err-need c = rw c.from_residual.ensures (one_lacks c.args.set.now (λ h. OneOf c.args.others.now (Joins (Marked (marked c.args.related.now)) h)) c.args.calls.now c.calls.call-index (get_or c.args.calls.now c.calls.call-index no_call) no_call c.calls-test.true refl c.in_err-need.ensures)

pub calls-preserved : goal.calls-preserved
calls-preserved c = one_read c.args.set.now (λ h. OneOf c.args.others.now (Joins (Marked (marked c.args.related.now)) h)) c.args.calls.now c.calls.call-index (get_or c.args.calls.now c.calls.call-index no_call) no_call c.args.need c.calls.need c.in_ok-need.need c.calls-test.true refl c.calls.invariant c.in_ok-need.ensures

pub returns : goal.returns
returns c = one_all c.args.set.now (λ h. OneOf c.args.others.now (Joins (Marked (marked c.args.related.now)) h)) c.args.calls.now c.calls.call-index c.args.need c.calls.need c.calls-test.false c.calls.invariant
