use Rattle.std.proofs.Common.{sym, ◌∙◌}
use Rattle.std.proofs.lemmas.Bool.{true≢false}
use Rattle.xs_meet.specs.Closed.{Marked}
use Rattle.xs_closed.specs.Rows.{marked}
use Rattle.xs_closed.specs.Search.{Joins}
use Rattle.xs_closed.proofs.AddLemmas.{adds_none, adds_more, adds_all}
use Rattle.xs_closed.proofs.LeadLemmas.{joins_new, joins_none}
use Rattle.xs_closed.proofs.visits.visit_partners.Goals as goal
use Rattle.xs_closed.proofs.visits.visit_partners.Goals.{then-has+in_ok-visit, else-has}

pub others-init : goal.others-init
others-init c = record { listed = c.requires.listed; more = adds_none (Joins (Marked (marked c.args.related.now)) c.args.call) c.args.set.now c.args.pairs.now.items }

pub others-preserved : goal.others-preserved
others-preserved c =
    let R = Marked (marked c.args.related.now) in
    elim c.if-has.branch [
      | then-has+in_ok-visit w ↦ rw (w.set-is, w.pairs-is) (record {
        listed = w.in_ok-visit.ensures.listed;
        more = adds_more (Joins R c.args.call) c.args.others.now c.others.other-index _ c.others-test.true c.others.invariant.more (joins_new R c.args.call _ (sym c.has.ensures ∙ w.if-has.true) w.in_ok-visit.ensures.ok);
      })
      | else-has w ↦ rw (w.set-is, w.pairs-is) (record {
        listed = c.others.invariant.listed;
        more = adds_more (Joins R c.args.call) c.args.others.now c.others.other-index _ c.others-test.true c.others.invariant.more (joins_none R c.args.call _ c.others.set c.others.pairs.items (λ e. true≢false (sym e ∙ sym c.has.ensures ∙ w.if-has.false)));
      })
    ]

pub returns-clause-ok : goal.returns-clause-ok
returns-clause-ok c = adds_all (Joins (Marked (marked c.args.related.now)) c.args.call) c.args.others.now c.others.other-index c.others-test.false c.others.invariant.more
