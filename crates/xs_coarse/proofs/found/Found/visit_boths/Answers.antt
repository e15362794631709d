use Rattle.xs_coarse.proofs.ArcLemmas.{arc}
use Rattle.xs_coarse.proofs.Walks.{walk_more, walk_all, joins_stay}
use Rattle.xs_coarse.proofs.found.Found.visit_boths.Goals as goal

pub arcs-preserved : goal.arcs-preserved
arcs-preserved c = walk_more (arc 0 0 0) c.visit_partners.new.self (λ x joins. joins_stay c.args.labels.now c.args.others.now x c.visit_partners.ensures.more joins) c.arcs.invariant c.arcs-test.true c.visit_partners.ensures.more c.in_ok-visit_partners.ensures.ok

pub returns-clause-ok : goal.returns-clause-ok
returns-clause-ok c = walk_all c.arcs.invariant c.arcs-test.false
