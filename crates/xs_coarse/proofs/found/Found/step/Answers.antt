use Rattle.xs_coarse.proofs.ArcLemmas.{steps_on}
use Rattle.xs_coarse.proofs.found.Found.step.Goals as goal

pub returns-clause-ok : goal.returns-clause-ok
returns-clause-ok c = steps_on c.args.labels.now c.args.first.now c.args.second.now c.args.at.first c.args.at.second c.visit_boths.new.self _ _ c.row.ensures.complete c.row-2.ensures.complete c.in_ok-visit_boths.ensures.ok
