use Rattle.xs_meet.proofs.SpreadLemmas.{drifted_on}
use Rattle.xs_meet.proofs.layer.Layer.drift.Goals as goal

pub returns-clause-ok : goal.returns-clause-ok
returns-clause-ok c = drifted_on c.args.first.now c.args.second.now c.args.at.first c.args.at.second c.args.from _ _ c.moves.ensures.value c.moves-2.ensures.value c.in_ok-visit_firsts.ensures.ok c.in_ok-visit_seconds.ensures.ok
