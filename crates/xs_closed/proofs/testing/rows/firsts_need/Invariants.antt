use Rattle.std.proofs.Common.{take}
use Rattle.xs_closed.specs.Search.{OneOf, IsPair}
use Rattle.xs_closed.specs.Testing.{InRow, Raises}
use Rattle.xs_closed.proofs.testing.rows.firsts_need.Given as goal

abbrev pub invariant-firsts : goal.invariant-firsts
invariant-firsts l = Raises l.set (OneOf (take l.first-index l.firsts) (λ c. InRow l.set l.a (IsPair c))) l.fn.need l.need
