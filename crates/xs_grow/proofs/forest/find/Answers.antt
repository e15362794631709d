use Rattle.xs_grow.specs.Making.{stands_at}
use Rattle.xs_grow.specs.Candidates.{WholeCandidate, FrontCandidate}
use Rattle.xs_grow.proofs.Sorting.{all_moved}
use Rattle.xs_grow.proofs.forest.find.Goals as goal

pub returns-clause-wholes : goal.returns-clause-wholes
returns-clause-wholes c = all_moved (WholeCandidate c.args.g.now (stands_at c.args.g.now c.args.doc.now)) c.in_ok-wholes.wholes.items c.in_ok-wholes-2.wholes c.in_ok-wholes-2.ensures c.in_ok-wholes.ensures

pub returns-clause-splits : goal.returns-clause-splits
returns-clause-splits c = all_moved (FrontCandidate c.args.g.now c.args.doc.now (stands_at c.args.g.now c.args.doc.now)) c.in_ok-splits.splits.items c.in_ok-splits-2.splits c.in_ok-splits-2.ensures c.in_ok-splits.ensures
