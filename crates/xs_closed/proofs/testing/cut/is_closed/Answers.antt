use Rattle.std.proofs.Common.{refl, arith}
use Rattle.xs_auto.specs.Nets.{states}
use Rattle.xs_meet.specs.Closed.{Marked}
use Rattle.xs_closed.specs.Rows.{marked}
use Rattle.xs_closed.specs.Testing.{LeadsWithin}
use Rattle.xs_closed.proofs.CutLemmas.{rows_more, rows_all}
use Rattle.xs_closed.proofs.testing.cut.is_closed.Goals as goal

pub rows-preserved : goal.rows-preserved
rows-preserved c = rows_more c.args.set.now (LeadsWithin (Marked (marked c.args.related.now)) c.args.m.now c.args.n.now c.args.set.now c.args.into.now) c.rows.a c.rows.invariant (c.if-not-is_closed_row.ensures.0 refl)

pub returns : goal.returns
returns c = (λ e. rows_all c.args.set.now (LeadsWithin (Marked (marked c.args.related.now)) c.args.m.now c.args.n.now c.args.set.now c.args.into.now) (states c.args.m.now) (states c.args.n.now) c.rows.a c.requires (omega (arith, c.len-a-end.ensures)) c.rows.invariant, λ p. refl)
