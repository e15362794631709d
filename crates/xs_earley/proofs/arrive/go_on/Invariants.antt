use Rattle.std.proofs.Common.{◌≡◌, ◌++◌, take}
use Rattle.xs_earley.specs.Arriving.{gathered, entered}
use Rattle.xs_earley.proofs.arrive.go_on.Given as goal

abbrev pub invariant-positions : goal.invariant-positions
invariant-positions l = l.due.items ≡ l.initial.due.items ++ gathered (entered l.automaton l.symbol l.base l.origin) (take l.position-index l.positions)
