use Rattle.std.proofs.Common.{get_or, refl}
use Rattle.xs_meet.specs.Closed.{Marked}
use Rattle.xs_closed.specs.Rows.{marked}
use Rattle.xs_closed.specs.Search.{Joins}
use Rattle.xs_closed.proofs.NeedLemmas.{one_read, one_all, one_lacks, no_call}
use Rattle.xs_closed.proofs.testing.steps.partners_need.Goals as goal

pub returns-in_err-need : goal.returns-in_err-need
returns-in_err-need c = rw c.from_residual.ensures (one_lacks c.args.set.now (Joins (Marked (marked c.args.related.now)) c.args.call) c.args.others.now c.others.other-index (get_or c.args.others.now c.others.other-index no_call) no_call c.others-test.true refl c.in_err-need.ensures)

pub others-preserved : goal.others-preserved
others-preserved c = one_read c.args.set.now (Joins (Marked (marked c.args.related.now)) c.args.call) c.args.others.now c.others.other-index (get_or c.args.others.now c.others.other-index no_call) no_call c.args.need c.others.need c.in_ok-need.need c.others-test.true refl c.others.invariant c.in_ok-need.ensures

pub returns : goal.returns
returns c = one_all c.args.set.now (Joins (Marked (marked c.args.related.now)) c.args.call) c.args.others.now c.others.other-index c.args.need c.others.need c.others-test.false c.others.invariant
