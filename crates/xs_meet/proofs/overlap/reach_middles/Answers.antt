use Rattle.xs_meet.specs.Searches.{Departs}
use Rattle.xs_meet.specs.Sharing.{AreKnown}
use Rattle.xs_meet.proofs.PhaseLemmas.{closed_seeds}
use Rattle.xs_meet.proofs.overlap.reach_middles.Goals as goal

pub returns-clause-ok : goal.returns-clause-ok
returns-clause-ok c =
    let R = AreKnown c.args.shared.now in
    let a = c.args.a.now in
    let b = c.args.b.now in
    closed_seeds R a b (Departs R a b c.args.turns.now) c.new-layer.result c.seed_departures.new.self c.close.new.self c.close.new.pairs c.new-layer.ensures.nets c.new-layer.ensures.steps c.in_ok-seed_departures.ensures.ok c.in_ok-close.ensures.fits c.in_ok-close.ensures.ok
