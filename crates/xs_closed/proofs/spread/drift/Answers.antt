use Rattle.xs_closed.proofs.LeadLemmas.{drifted_on}
use Rattle.xs_closed.proofs.spread.drift.Goals as goal

pub returns-clause-ok : goal.returns-clause-ok
returns-clause-ok c = drifted_on c.args.m.now c.args.n.now c.args.at.first c.args.at.second _ _ c.moves.ensures.value c.moves-2.ensures.value c.in_ok-visit_firsts.ensures.ok c.in_ok-visit_seconds.ensures.ok
