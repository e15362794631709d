use Rattle.std.proofs.Common.{sym, arith}
use Rattle.std.proofs.lemmas.Option.{get_or_from_slice_get}
use Rattle.xs_closed.specs.Search.{Meets}
use Rattle.xs_closed.proofs.NeedLemmas.{one_read, one_all, one_lacks}
use Rattle.xs_closed.proofs.testing.steps.ends_need.Goals as goal

pub returns-in_err-need : goal.returns-in_err-need
returns-in_err-need c = rw c.from_residual.ensures (one_lacks c.args.set.now (Meets c.args.edge.now) c.args.others.now c.others.place c.edge-other.result c.edge-other.result (omega (arith, c.len-place-end.ensures, c.others-test.true)) (sym (get_or_from_slice_get c.args.others.now c.others.place c.edge-other.result c.edge-other.result c.edge-other.ensures)) c.in_err-need.ensures)

pub others-preserved : goal.others-preserved
others-preserved c = one_read c.args.set.now (Meets c.args.edge.now) c.args.others.now c.others.place c.edge-other.result c.edge-other.result c.args.need c.others.need c.in_ok-need.need (omega (arith, c.len-place-end.ensures, c.others-test.true)) (sym (get_or_from_slice_get c.args.others.now c.others.place c.edge-other.result c.edge-other.result c.edge-other.ensures)) c.others.invariant c.in_ok-need.ensures

pub returns : goal.returns
returns c = one_all c.args.set.now (Meets c.args.edge.now) c.args.others.now c.others.place c.args.need c.others.need (omega (arith, c.len-place-end.ensures, c.others-test.false)) c.others.invariant
