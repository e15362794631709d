use Rattle.xs_meet.proofs.PhaseLemmas.{closed_turns}
use Rattle.xs_meet.proofs.overlap.reach_turns.Goals as goal

pub returns-clause-ok : goal.returns-clause-ok
returns-clause-ok c = closed_turns c.args.a.now c.args.b.now c.args.start c.args.fronts.now c.new-layer.result c.seed_ends.new.self c.close_drifts.new.self c.close_drifts.new.pairs c.new-layer.ensures.nets c.new-layer.ensures.steps c.in_ok-seed_ends.ensures.ok c.in_ok-close_drifts.ensures.fits c.in_ok-close_drifts.ensures.ok
