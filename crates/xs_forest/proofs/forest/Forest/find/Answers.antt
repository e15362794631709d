use Rattle.std.proofs.Common.{sym}
use Rattle.xs_forest.proofs.Labels.{none_has, found_has}
use Rattle.xs_forest.proofs.forest.Forest.find.Goals as goal

pub returns-in_err-at : goal.returns-in_err-at
returns-in_err-at g c = record {
  found = rw (c.from_residual.ensures, ← c.self.view_is)
      (none_has g.L.PartialEq.eq g.met.L.Eq.laws.refl c.self.inside.rows.entries c.args.label (sym c.in_err-at.ensures.found));
}

pub returns : goal.returns
returns g c = record {
  found = rw (← c.self.view_is)
      (found_has g.L.PartialEq.eq g.met.L.Eq.laws.refl g.met.L.Label.same c.self.inside.rows.entries c.args.label c.in_ok-at.at (sym c.in_ok-at.ensures.index));
}
