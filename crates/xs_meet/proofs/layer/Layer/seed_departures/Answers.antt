use Rattle.std.proofs.Common.{◌∙◌, get_or, arith}
use Rattle.std.proofs.lemmas.Option.{slice_get-get_or}
use Rattle.xs_meet.specs.Searches.{step, Departs}
use Rattle.xs_meet.specs.Sharing.{AreKnown}
use Rattle.xs_meet.proofs.SeedLemmas.{below_more, below_all, departs_here, departs_low}
use Rattle.xs_meet.proofs.layer.Layer.seed_departures.Goals as goal

pub places-preserved : goal.places-preserved
places-preserved c =
    let R = AreKnown c.args.shared.now in
    let m = c.args.first.now in
    let n = c.args.second.now in
    let steps = c.args.steps.now in
    let place = c.places.place in
    let at = get_or steps place (step 0 0 0) in
    let here = slice_get-get_or steps place (step 0 0 0) c.places-test.true in
    record {
      cells = c.stride.ensures.cells ∙ c.places.invariant.cells;
      fits = c.in_ok-stride.ensures.fits;
      more = below_more (Departs R m n steps) place c.places.invariant.more (departs_here R m n steps place at here c.in_ok-stride.ensures.ok);
    }

pub returns-clause-ok : goal.returns-clause-ok
returns-clause-ok c = below_all (Departs (AreKnown c.args.shared.now) c.args.first.now c.args.second.now c.args.steps.now) c.places.place (λ s r. let l = departs_low (AreKnown c.args.shared.now) c.args.first.now c.args.second.now c.args.steps.now s r in omega (arith, c.places-test.false)) c.places.invariant.more
