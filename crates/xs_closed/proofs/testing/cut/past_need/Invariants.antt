use Rattle.xs_closed.specs.Testing.{IsPastBelow, Raises}
use Rattle.xs_closed.proofs.testing.cut.past_need.Given as goal

abbrev pub invariant-rows : goal.invariant-rows
invariant-rows l = Raises l.into (IsPastBelow l.front l.rest l.set l.a) 0 l.need
