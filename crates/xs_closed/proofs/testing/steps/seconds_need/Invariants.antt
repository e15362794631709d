use Rattle.std.proofs.Common.{take}
use Rattle.xs_closed.specs.Search.{OneOf, IsPair}
use Rattle.xs_closed.specs.Testing.{Raises}
use Rattle.xs_closed.proofs.testing.steps.seconds_need.Given as goal

abbrev pub invariant-seconds : goal.invariant-seconds
invariant-seconds l = Raises l.set (OneOf (take l.second-index l.seconds) (IsPair l.c)) l.fn.need l.need
