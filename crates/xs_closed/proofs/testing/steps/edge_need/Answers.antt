use Rattle.xs_closed.proofs.NeedLemmas.{meets_need}
use Rattle.xs_closed.proofs.testing.steps.edge_need.Goals as goal

pub returns-in-Some : goal.returns-in-Some
returns-in-Some c = meets_need c.args.set.now c.args.edge.now c.args.other.now c.in-Some.field-0 c.args.need c.pair_need.result c.in-Some.ensures.first c.in-Some.ensures.second (rw (c.to-first.ensures, c.to-second.ensures) at c.pair_need.ensures)
