use Rattle.xs_meet.specs.Closed.{Marked}
use Rattle.xs_meet.specs.Sharing.{AreKnown}
use Rattle.xs_meet.proofs.NestLemmas.{apart}
use Rattle.xs_meet.proofs.meet.meet_nested.Goals as goal

pub returns-in-None-clause-none : goal.returns-in-None-clause-none
returns-in-None-clause-none c =
    let z = rw c.in-None.is at c.in_ok-meet_pieces.ensures.none in
    apart c.args.nest.now c.requires.fenced (AreKnown c.args.shared.now) c.requires.shared.settled c.args.a.now c.args.b.now (Marked z.0) c.requires.tame_a c.requires.tame_b z.1
