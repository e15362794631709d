use Rattle.xs_meet.specs.Sharing.{AreKnown}
use Rattle.xs_meet.proofs.PhaseLemmas.{closes_whole}
use Rattle.xs_meet.proofs.layer.Layer.close.Goals as goal

pub returns-clause-ok : goal.returns-clause-ok
returns-clause-ok c = closes_whole (AreKnown c.args.shared.now) c.args.first.now c.args.second.now c.in_ok-_end._end c.in_ok-_end.ensures.follows c.in_ok-_end.ensures.some c.in_ok-_end.ensures.closed
