use Rattle.std.proofs.Common.{sym, arith}
use Rattle.xs_auto.specs.Nets.{states}
use Rattle.xs_closed.proofs.CutLemmas.{past_next, past_lacks, past_done}
use Rattle.xs_closed.proofs.testing.cut.past_need.Goals as goal

pub returns-in_err-need : goal.returns-in_err-need
returns-in_err-need c = rw c.from_residual.ensures (past_lacks c.args.set.now c.args.into.now c.args.front.now c.args.rest.now c.rows.a c.in-Some.s (sym c.in-Some.ensures.value) c.in_err-need.ensures)

pub rows-preserved : goal.rows-preserved
rows-preserved c = past_next c.args.set.now c.args.into.now c.args.front.now c.args.rest.now c.rows.a c.in-Some.s c.rows.need c.in_ok-need.need (sym c.in-Some.ensures.value) c.rows.invariant c.in_ok-need.ensures

pub returns : goal.returns
returns c = past_done c.args.set.now c.args.into.now c.args.front.now c.args.rest.now (states c.args.front.now) (states c.args.rest.now) c.rows.a c.rows.need c.requires.set (omega (arith, c.len-a-end.ensures)) c.rows.invariant
