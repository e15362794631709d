use Rattle.std.proofs.Common.{◌≡◌, ◌<◌, ◌∙◌, sym, arith, length, get_or}
use Rattle.std.proofs.lemmas.Option.{get_or_from_slice_get}
use Rattle.xs_meet.specs.Searches.{Meets}
use Rattle.xs_meet.proofs.GainLemmas.{extends_read, extends_all, meets_some, meets_none}
use Rattle.xs_meet.proofs.layer.Layer.visit_ends.Goals as goal
use Rattle.xs_meet.proofs.layer.Layer.visit_ends.Goals.{then-is_some+in_ok-visit, else-is_some}

pub others-preserved : goal.others-preserved
others-preserved c =
    let f = c.edge-other.result in
    let there : c.others.place < length c.args.others.now = omega (arith, c.len-place-end.ensures, c.others-test.true) in
    let is : f ≡ get_or c.args.others.now c.others.place f = sym (get_or_from_slice_get c.args.others.now c.others.place f f c.edge-other.ensures) in
    let common = c.first_common in
    elim c.if-is_some.branch [
      | then-is_some+in_ok-visit w ↦ rw (w.self-is, w.pairs-is) (record {
        cells = w.visit.ensures.cells ∙ c.others.invariant.cells;
        fits = w.in_ok-visit.ensures.fits;
        more = extends_read (λ f. Meets c.args.edge.now f c.args.from) c.args.others.now c.others.place f there is c.others.invariant.more
            (meets_some c.args.edge.now f c.args.from common.result (sym c.is_some.ensures ∙ w.if-is_some.true) common.ensures.first common.ensures.second (rw (w.to-first.ensures, w.to-second.ensures) at w.in_ok-visit.ensures.ok));
      })
      | else-is_some w ↦ rw (w.self-is, w.pairs-is) (record {
        cells = c.others.invariant.cells;
        fits = c.others.invariant.fits;
        more = extends_read (λ f. Meets c.args.edge.now f c.args.from) c.args.others.now c.others.place f there is c.others.invariant.more
            (meets_none c.args.edge.now f c.args.from common.result c.others.self (sym c.is_some.ensures ∙ w.if-is_some.false) common.ensures.none);
      })
    ]

pub returns-clause-ok : goal.returns-clause-ok
returns-clause-ok c = extends_all (λ f. Meets c.args.edge.now f c.args.from) c.args.others.now c.others.place (omega (arith, c.len-place-end.ensures, c.others-test.false)) c.others.invariant.more
