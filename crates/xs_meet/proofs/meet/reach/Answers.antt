use Rattle.xs_meet.specs.Sharing.{AreKnown}
use Rattle.xs_meet.specs.Traces.{IsRoot}
use Rattle.xs_meet.proofs.PhaseLemmas.{closed_only}
use Rattle.xs_meet.proofs.meet.reach.Goals as goal

pub returns-clause-ok : goal.returns-clause-ok
returns-clause-ok c =
    let m = c.args.first.now in
    let n = c.args.second.now in
    closed_only (AreKnown c.args.shared.now) m n (IsRoot m n) c.in_ok-layer.layer c.close.new.self c.close.new.pairs c.in_ok-layer.ensures.nets c.in_ok-layer.ensures.only c.in_ok-close.ensures.fits c.in_ok-close.ensures.ok
