use Rattle.std.proofs.Common.{◌-◌}
use Rattle.xs_auto.specs.Nets.{moves_of}
use Rattle.xs_closed.specs.Search.{OneOf, IsPair}
use Rattle.xs_closed.specs.Testing.{InRowBelow, Raises}
use Rattle.xs_closed.proofs.testing.rows.moved_need.Given as goal

abbrev pub invariant-partners : goal.invariant-partners
invariant-partners l = Raises l.set (InRowBelow l.set l.a l.from (λ b. OneOf (moves_of l.n b) (IsPair l.a))) l.fn.need l.need

abbrev pub decreases-partners : goal.decreases-partners
decreases-partners l = l.set.wide - l.from
