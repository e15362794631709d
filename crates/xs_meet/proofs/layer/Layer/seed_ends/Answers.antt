use Rattle.std.proofs.Common.{◌∙◌, sym, get_or, arith}
use Rattle.std.proofs.lemmas.Option.{slice_get-get_or}
use Rattle.xs_meet.specs.Searches.{step, Seeds}
use Rattle.xs_meet.proofs.SeedLemmas.{below_more, below_all, seed_within, seeds_here, seeds_nowhere, seeds_low}
use Rattle.xs_meet.proofs.layer.Layer.seed_ends.Goals as goal
use Rattle.xs_meet.proofs.layer.Layer.seed_ends.Goals.{then-is_final+in_ok-visit, else-is_final}

pub visit-requires-clause-first : goal.visit-requires-clause-first
visit-requires-clause-first c = (seed_within c.args.seat c.args.net.now c.args.steps.now c.places.place _ _ c.args.start c.places.invariant.more.area c.requires.range c.requires.start c.places-test.true c.pair-first.ensures.start c.pair-first.ensures.other).0

pub visit-requires-clause-second : goal.visit-requires-clause-second
visit-requires-clause-second c = (seed_within c.args.seat c.args.net.now c.args.steps.now c.places.place _ _ c.args.start c.places.invariant.more.area c.requires.range c.requires.start c.places-test.true c.pair-first.ensures.start c.pair-first.ensures.other).1

pub places-preserved : goal.places-preserved
places-preserved c =
    let net = c.args.net.now in
    let steps = c.args.steps.now in
    let place = c.places.place in
    let end = get_or steps place (step 0 0 0) in
    let here = slice_get-get_or steps place (step 0 0 0) c.places-test.true in
    let R = Seeds c.args.seat net c.args.start steps in
    elim c.if-is_final.branch [
      | then-is_final+in_ok-visit w ↦ rw (w.self-is, w.pairs-is) (record {
        cells = w.visit.ensures.cells ∙ c.places.invariant.cells;
        fits = w.in_ok-visit.ensures.fits;
        more = below_more R place c.places.invariant.more (seeds_here c.args.seat net c.args.start steps place _ _ end w.pair-first.ensures.start w.pair-first.ensures.other here (sym c.is_final.ensures ∙ w.if-is_final.true) w.in_ok-visit.ensures.ok);
      })
      | else-is_final w ↦ rw (w.self-is, w.pairs-is) (record {
        cells = c.places.invariant.cells;
        fits = c.places.invariant.fits;
        more = below_more R place c.places.invariant.more (seeds_nowhere c.args.seat net c.args.start steps place end c.places.self here (sym c.is_final.ensures ∙ w.if-is_final.false));
      })
    ]

pub returns-clause-ok : goal.returns-clause-ok
returns-clause-ok c = below_all (Seeds c.args.seat c.args.net.now c.args.start c.args.steps.now) c.places.place (λ s r. let l = seeds_low c.args.seat c.args.net.now c.args.start c.args.steps.now s r in omega (arith, c.places-test.false)) c.places.invariant.more
