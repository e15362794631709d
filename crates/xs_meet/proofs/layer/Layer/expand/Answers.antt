use Rattle.xs_meet.specs.Sharing.{AreKnown}
use Rattle.xs_meet.proofs.SpreadLemmas.{led_on}
use Rattle.xs_meet.proofs.layer.Layer.expand.Goals as goal

pub returns-clause-ok : goal.returns-clause-ok
returns-clause-ok c = led_on (AreKnown c.args.shared.now) c.args.first.now c.args.second.now c.args.at.first c.args.at.second c.args.from c.in_ok-drift.ensures.ok c.in_ok-stride.ensures.ok
