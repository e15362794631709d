use Rattle.xs_meet.specs.Searches.{Seeds}
use Rattle.xs_meet.specs.declared.seat.Seat.TheVariants.{First}
use Rattle.xs_meet.specs.Sharing.{AreKnown}
use Rattle.xs_meet.proofs.PhaseLemmas.{closed_seeds}
use Rattle.xs_meet.proofs.overlap.reach_rests.Goals as goal

pub returns-clause-ok : goal.returns-clause-ok
returns-clause-ok c =
    let b = c.args.b.now in
    closed_seeds (AreKnown c.args.shared.now) b b (Seeds First c.args.a.now c.args.start c.args.middles.now) c.new-layer.result c.seed_ends.new.self c.close.new.self c.close.new.pairs c.new-layer.ensures.nets c.new-layer.ensures.steps c.in_ok-seed_ends.ensures.ok c.in_ok-close.ensures.fits c.in_ok-close.ensures.ok
