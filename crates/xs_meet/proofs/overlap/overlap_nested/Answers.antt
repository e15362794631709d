use Rattle.xs_meet.specs.Sharing.{AreKnown}
use Rattle.xs_meet.proofs.NestLemmas.{clear}
use Rattle.xs_meet.proofs.OverlapLemmas.{phases_clear}
use Rattle.xs_meet.proofs.overlap.overlap_nested.Goals as goal

pub returns-in-None-clause-none : goal.returns-in-None-clause-none
returns-in-None-clause-none c =
    let R = AreKnown c.args.shared.now in
    clear c.args.nest.now c.requires.fenced R c.requires.shared.settled c.args.a.now c.args.b.now _ _ _ _ c.requires.tame_a c.requires.tame_b (phases_clear R c.args.a.now c.args.b.now c.in_ok-reached.reached c.in_ok-reached.ensures.ok (rw c.deref.ensures.value at c.in-None.ensures.none))

pub returns-clause-some : goal.returns-clause-some
returns-clause-some c = c.in_ok-pieces-in-Some.ensures.overlap c.args.nest.now _ _ _ c.in_ok-spelt-in-Some.ensures c.in_ok-spelt-in-Some-2.ensures c.in_ok-spelt-in-Some-3.ensures
