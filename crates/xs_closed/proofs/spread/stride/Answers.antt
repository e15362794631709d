use Rattle.xs_meet.specs.Closed.{Marked}
use Rattle.xs_closed.specs.Rows.{marked}
use Rattle.xs_closed.proofs.LeadLemmas.{strode_none, strode_on}
use Rattle.xs_closed.proofs.spread.stride.Goals as goal

pub returns-then-are_still-clause-ok : goal.returns-then-are_still-clause-ok
returns-then-are_still-clause-ok c = strode_none (Marked (marked c.args.related.now)) c.args.m.now c.args.n.now c.args.at.first c.args.at.second _ _ (c.are_still.ensures.edges c.if-are_still.true) (c.are_still.ensures.calls c.if-are_still.true)

pub returns-clause-ok : goal.returns-clause-ok
returns-clause-ok c = strode_on (Marked (marked c.args.related.now)) c.args.m.now c.args.n.now c.args.at.first c.args.at.second _ _ _ _ c.edges-edges.ensures.value c.edges-others.ensures.value c.calls.ensures.value c.calls-2.ensures.value c.in_ok-visit_boths.ensures.ok c.in_ok-visit_calls.ensures.ok
