use Rattle.xs_closed.proofs.PartnerLemmas.{drifts_first, drifts_then}
use Rattle.xs_closed.proofs.testing.rows.drifts_need.Goals as goal

pub returns-in_err-need : goal.returns-in_err-need
returns-in_err-need c = rw c.from_residual.ensures (drifts_first c.args.set.now c.args.m.now c.args.n.now c.args.a c.moves.result.now c.moves.ensures.value c.in_err-need.ensures)

pub returns : goal.returns
returns c = drifts_then c.args.set.now c.args.m.now c.args.n.now c.args.a c.moves.result.now c.args.need c.in_ok-need.need c.moved_need.result c.moves.ensures.value c.in_ok-need.ensures c.moved_need.ensures
