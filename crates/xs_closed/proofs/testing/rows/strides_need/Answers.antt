use Rattle.xs_meet.specs.Closed.{Marked}
use Rattle.xs_closed.specs.Rows.{marked}
use Rattle.xs_closed.specs.Testing.{StridesBy}
use Rattle.xs_closed.proofs.PartnerLemmas.{partners_more, partners_lack, partners_done, strides_lack, strides_done}
use Rattle.xs_closed.proofs.testing.rows.strides_need.Goals as goal

pub returns-in_err-need : goal.returns-in_err-need
returns-in_err-need c =
    let R = Marked (marked c.args.related.now) in
    rw c.from_residual.ensures (strides_lack c.args.set.now c.args.into.now R c.args.m.now c.args.n.now c.args.a c.edges-edges.result c.calls-calls.result.now c.edges-edges.ensures.value c.calls-calls.ensures.value (partners_lack c.args.set.now c.args.into.now c.args.a (StridesBy R c.edges-edges.result c.calls-calls.result.now c.args.n.now) c.partners.from c.in-Some.b c.in-Some.ensures.some c.in_err-need.ensures))

pub partners-preserved : goal.partners-preserved
partners-preserved c = partners_more c.args.set.now c.args.into.now c.args.a (StridesBy (Marked (marked c.args.related.now)) c.edges-edges.result c.calls-calls.result.now c.args.n.now) c.partners.from c.in-Some.b c.args.need c.partners.need c.in_ok-need.need c.in-Some.ensures.some c.partners.invariant c.in_ok-need.ensures

pub returns : goal.returns
returns c =
    let R = Marked (marked c.args.related.now) in
    strides_done c.args.set.now c.args.into.now R c.args.m.now c.args.n.now c.args.a c.edges-edges.result c.calls-calls.result.now c.args.need c.partners.need c.edges-edges.ensures.value c.calls-calls.ensures.value (partners_done c.args.set.now c.args.into.now c.args.a (StridesBy R c.edges-edges.result c.calls-calls.result.now c.args.n.now) c.partners.from c.args.need c.partners.need c.in_default.ensures.none c.partners.invariant)
