use Rattle.std.proofs.Common.{sym, arith}
use Rattle.std.proofs.lemmas.Option.{get_or_from_slice_get}
use Rattle.xs_closed.specs.Search.{OneOf, Meets}
use Rattle.xs_closed.proofs.NeedLemmas.{one_read, one_all, one_lacks}
use Rattle.xs_closed.proofs.testing.steps.edges_need.Goals as goal

pub returns-in_err-need : goal.returns-in_err-need
returns-in_err-need c = rw c.from_residual.ensures (one_lacks c.args.set.now (λ e. OneOf c.args.others.now (Meets e)) c.args.edges.now c.edges.place c.edge-edge.result c.edge-edge.result (omega (arith, c.len-place-end.ensures, c.edges-test.true)) (sym (get_or_from_slice_get c.args.edges.now c.edges.place c.edge-edge.result c.edge-edge.result c.edge-edge.ensures)) c.in_err-need.ensures)

pub edges-preserved : goal.edges-preserved
edges-preserved c = one_read c.args.set.now (λ e. OneOf c.args.others.now (Meets e)) c.args.edges.now c.edges.place c.edge-edge.result c.edge-edge.result c.args.need c.edges.need c.in_ok-need.need (omega (arith, c.len-place-end.ensures, c.edges-test.true)) (sym (get_or_from_slice_get c.args.edges.now c.edges.place c.edge-edge.result c.edge-edge.result c.edge-edge.ensures)) c.edges.invariant c.in_ok-need.ensures

pub returns : goal.returns
returns c = one_all c.args.set.now (λ e. OneOf c.args.others.now (Meets e)) c.args.edges.now c.edges.place c.args.need c.edges.need (omega (arith, c.len-place-end.ensures, c.edges-test.false)) c.edges.invariant
