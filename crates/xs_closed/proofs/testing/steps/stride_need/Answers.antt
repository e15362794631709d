use Rattle.xs_meet.specs.Closed.{Marked}
use Rattle.xs_closed.specs.Rows.{marked}
use Rattle.xs_closed.proofs.NeedLemmas.{stride_first, stride_then}
use Rattle.xs_closed.proofs.testing.steps.stride_need.Goals as goal

pub returns-in_err-need : goal.returns-in_err-need
returns-in_err-need c = rw c.from_residual.ensures (stride_first c.args.set.now (Marked (marked c.args.related.now)) c.args.n.now c.args.b c.args.edges.now c.edges-others.result c.args.calls.now c.edges-others.ensures.value c.in_err-need.ensures)

pub returns : goal.returns
returns c = stride_then c.args.set.now (Marked (marked c.args.related.now)) c.args.n.now c.args.b c.args.edges.now c.edges-others.result c.args.calls.now c.calls.result.now c.args.need c.in_ok-need.need c.calls_need.result c.edges-others.ensures.value c.calls.ensures.value c.in_ok-need.ensures c.calls_need.ensures
