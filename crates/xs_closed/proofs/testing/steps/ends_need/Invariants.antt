use Rattle.std.proofs.Common.{take}
use Rattle.xs_closed.specs.Search.{OneOf, Meets}
use Rattle.xs_closed.specs.Testing.{Raises}
use Rattle.xs_closed.proofs.testing.steps.ends_need.Given as goal

abbrev pub invariant-others : goal.invariant-others
invariant-others l = Raises l.set (OneOf (take l.place l.others) (Meets l.edge)) l.fn.need l.need
