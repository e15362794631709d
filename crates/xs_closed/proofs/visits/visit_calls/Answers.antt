use Rattle.xs_meet.specs.Closed.{Marked}
use Rattle.xs_closed.specs.Rows.{marked}
use Rattle.xs_closed.specs.Search.{OneOf, Joins}
use Rattle.xs_closed.proofs.AddLemmas.{adds_none, adds_more, adds_all}
use Rattle.xs_closed.proofs.visits.visit_calls.Goals as goal

pub calls-init : goal.calls-init
calls-init c = record { listed = c.requires.listed; more = adds_none (λ h. OneOf c.args.others.now (Joins (Marked (marked c.args.related.now)) h)) c.args.set.now c.args.pairs.now.items }

pub calls-preserved : goal.calls-preserved
calls-preserved c = record {
  listed = c.in_ok-visit_partners.ensures.listed;
  more = adds_more (λ h. OneOf c.args.others.now (Joins (Marked (marked c.args.related.now)) h)) c.args.calls.now c.calls.call-index _ c.calls-test.true c.calls.invariant.more c.in_ok-visit_partners.ensures.ok;
}

pub returns-clause-ok : goal.returns-clause-ok
returns-clause-ok c = adds_all (λ h. OneOf c.args.others.now (Joins (Marked (marked c.args.related.now)) h)) c.args.calls.now c.calls.call-index c.calls-test.false c.calls.invariant.more
