use Rattle.std.proofs.Common.{take}
use Rattle.xs_meet.specs.Closed.{Marked}
use Rattle.xs_closed.specs.Rows.{marked}
use Rattle.xs_closed.specs.Search.{OneOf, Joins}
use Rattle.xs_closed.specs.Testing.{Raises}
use Rattle.xs_closed.proofs.testing.steps.partners_need.Given as goal

abbrev pub invariant-others : goal.invariant-others
invariant-others l = Raises l.set (OneOf (take l.other-index l.others) (Joins (Marked (marked l.related)) l.call)) l.fn.need l.need
