use Rattle.std.proofs.Common.{take}
use Rattle.xs_closed.specs.Search.{OneOf, Meets}
use Rattle.xs_closed.specs.Testing.{Raises}
use Rattle.xs_closed.proofs.testing.steps.edges_need.Given as goal

abbrev pub invariant-edges : goal.invariant-edges
invariant-edges l = Raises l.set (OneOf (take l.place l.edges) (λ e. OneOf l.others (Meets e))) l.fn.need l.need
