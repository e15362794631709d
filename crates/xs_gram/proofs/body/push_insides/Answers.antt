use Rattle.xs_gram.proofs.Building.{insides_step}
use Rattle.xs_gram.proofs.body.push_insides.Goals as goal

pub positions-preserved : goal.positions-preserved
positions-preserved c = insides_step c.positions.places.items c.push.new.self.items _ c.args.rule c.args.dot c.positions.k c.args.count c.positions-test.true c.in_ok-push.ensures.items c.positions.invariant
