use Rattle.std.proofs.Common.{◌-◌}
use Rattle.xs_meet.specs.Closed.{Marked}
use Rattle.xs_closed.specs.Rows.{marked}
use Rattle.xs_closed.specs.Testing.{StridesBy, InRowBelow, Raises}
use Rattle.xs_closed.proofs.testing.rows.strides_need.Given as goal

abbrev pub invariant-partners : goal.invariant-partners
invariant-partners l = Raises l.into (InRowBelow l.set l.a l.from (StridesBy (Marked (marked l.related)) l.edges l.calls l.n)) l.fn.need l.need

abbrev pub decreases-partners : goal.decreases-partners
decreases-partners l = l.set.wide - l.from
