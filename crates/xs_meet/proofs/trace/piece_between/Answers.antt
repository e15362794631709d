use Rattle.xs_meet.specs.Sharing.{AreKnown}
use Rattle.xs_meet.proofs.TraceLemmas.{none_stride}
use Rattle.xs_meet.proofs.trace.piece_between.Goals as goal

pub returns-in-None-clause-none : goal.returns-in-None-clause-none
returns-in-None-clause-none c = none_stride (AreKnown c.args.shared.now) c.args.first.now c.args.second.now c.args.from.first c.args.from.second c.args.to.first c.args.to.second _ _ c.calls.ensures.value c.calls-2.ensures.value c.in_default.ensures.none c.in-None.ensures.none
