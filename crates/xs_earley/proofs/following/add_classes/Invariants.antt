use Rattle.std.proofs.Common.{◌≡◌, ◌++◌, take}
use Rattle.xs_earley.specs.Arriving.{gathered}
use Rattle.xs_earley.specs.Following.{class_at}
use Rattle.xs_earley.proofs.following.add_classes.Given as goal

abbrev pub invariant-positions : goal.invariant-positions
invariant-positions l = l.ranges.items ≡ l.initial.ranges.items ++ gathered (class_at l.automaton) (take l.position-index l.positions)
