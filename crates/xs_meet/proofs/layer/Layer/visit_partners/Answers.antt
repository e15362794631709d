use Rattle.std.proofs.Common.{◌∙◌, sym}
use Rattle.std.proofs.lemmas.Bool.{true≢false}
use Rattle.xs_meet.specs.Searches.{Joins}
use Rattle.xs_meet.specs.Sharing.{AreKnown}
use Rattle.xs_meet.proofs.GainLemmas.{extends_more, extends_all, joins_some, joins_none}
use Rattle.xs_meet.proofs.layer.Layer.visit_partners.Goals as goal
use Rattle.xs_meet.proofs.layer.Layer.visit_partners.Goals.{then-has+in_ok-visit, else-has}

pub others-preserved : goal.others-preserved
others-preserved c =
    let R = AreKnown c.args.shared.now in
    elim c.if-has.branch [
      | then-has+in_ok-visit w ↦ rw (w.self-is, w.pairs-is) (record {
        cells = w.visit.ensures.cells ∙ c.others.invariant.cells;
        fits = w.in_ok-visit.ensures.fits;
        more = extends_more (λ k. Joins R c.args.call k c.args.from) c.args.others.now c.others.other-index _ c.others-test.true c.others.invariant.more
            (joins_some R c.args.call _ c.args.from (sym c.has.ensures ∙ w.if-has.true) w.in_ok-visit.ensures.ok);
      })
      | else-has w ↦ rw (w.self-is, w.pairs-is) (record {
        cells = c.others.invariant.cells;
        fits = c.others.invariant.fits;
        more = extends_more (λ k. Joins R c.args.call k c.args.from) c.args.others.now c.others.other-index _ c.others-test.true c.others.invariant.more
            (joins_none R c.args.call _ c.args.from c.others.self (λ e. true≢false (sym e ∙ sym c.has.ensures ∙ w.if-has.false)));
      })
    ]

pub returns-clause-ok : goal.returns-clause-ok
returns-clause-ok c = extends_all (λ k. Joins (AreKnown c.args.shared.now) c.args.call k c.args.from) c.args.others.now c.others.other-index c.others-test.false c.others.invariant.more
