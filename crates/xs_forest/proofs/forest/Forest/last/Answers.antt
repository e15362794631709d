use Rattle.std.proofs.Common.{sym}
use Rattle.xs_forest.proofs.Labels.{last_has}
use Rattle.xs_forest.proofs.forest.Forest.last.Goals as goal

pub returns-then-eq : goal.returns-then-eq
returns-then-eq g c =
    let last = c.in_ok-last in
    rw (← c.self.view_is, c.len.ensures.len)
    (last_has g.L.PartialEq.eq g.met.L.Eq.laws.refl g.met.L.Label.same c.self.inside.rows.entries c.args.label last.last.now last.field-0-1.now (sym last.ensures.entry) (sym c.if-eq.ensures))
