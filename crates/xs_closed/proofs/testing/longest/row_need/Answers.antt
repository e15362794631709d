use Rattle.std.proofs.Common.{refl, arith}
use Rattle.xs_meet.specs.Closed.{Marked}
use Rattle.xs_closed.specs.Rows.{marked}
use Rattle.xs_closed.proofs.LongestLemmas.{row_empty, row_fails, kept_in, drifts_in, row_done}
use Rattle.xs_closed.proofs.testing.longest.row_need.Goals as goal

pub returns-in_default : goal.returns-in_default
returns-in_default c = row_empty c.args.set.now (Marked (marked c.args.related.now)) c.args.m.now c.args.n.now c.args.a c.args.need (λ b. c.in_default.ensures.none b (omega arith))

pub returns-in_err-kept : goal.returns-in_err-kept
returns-in_err-kept c =
    let R = Marked (marked c.args.related.now) in
    rw c.from_residual.ensures (row_fails c.args.set.now R c.args.m.now c.args.n.now c.args.a c.args.need (kept_in c.args.set.now R c.args.m.now c.args.n.now c.args.a) c.in_err-kept.ensures)

pub returns-in_err-drifted : goal.returns-in_err-drifted
returns-in_err-drifted c =
    let R = Marked (marked c.args.related.now) in
    rw c.from_residual-in_err-drifted.ensures (row_fails c.args.set.now R c.args.m.now c.args.n.now c.args.a c.args.need (drifts_in c.args.set.now R c.args.m.now c.args.n.now c.args.a) c.in_err-drifted.ensures)

pub returns : goal.returns
returns c = row_done c.args.set.now (Marked (marked c.args.related.now)) c.args.m.now c.args.n.now c.args.a c.args.need c.in_ok-kept.kept c.in_ok-drifted.drifted c.strides_need.result (c.if-has_finals.ensures.none refl) c.in_ok-kept.ensures c.in_ok-drifted.ensures c.strides_need.ensures
