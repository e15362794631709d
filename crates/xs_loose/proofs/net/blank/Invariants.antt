use Rattle.xs_loose.specs.Making.{IsBlank}
use Rattle.xs_loose.proofs.net.blank.Given as goal

abbrev pub invariant-states : goal.invariant-states
invariant-states l = IsBlank l.counter l.net
