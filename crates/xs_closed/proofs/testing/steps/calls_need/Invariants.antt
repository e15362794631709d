use Rattle.std.proofs.Common.{take}
use Rattle.xs_meet.specs.Closed.{Marked}
use Rattle.xs_closed.specs.Rows.{marked}
use Rattle.xs_closed.specs.Search.{OneOf, Joins}
use Rattle.xs_closed.specs.Testing.{Raises}
use Rattle.xs_closed.proofs.testing.steps.calls_need.Given as goal

abbrev pub invariant-calls : goal.invariant-calls
invariant-calls l = Raises l.set (OneOf (take l.call-index l.calls) (λ h. OneOf l.others (Joins (Marked (marked l.related)) h))) l.fn.need l.need
