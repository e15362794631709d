use Rattle.xs_forest.proofs.Labels.{once}
use Rattle.xs_forest.proofs.forest.Forest.len.Goals as goal

pub returns-clause-once : goal.returns-clause-once
returns-clause-once g c = rw (← c.self.view_is) (once g.L.PartialEq.eq g.met.L.Eq.laws.refl c.self.inside.rows.entries c.len.ensures.unique)
