use Rattle.std.proofs.Common.{◌≡◌, ◌++◌, take}
use Rattle.xs_earley.specs.Arriving.{gathered}
use Rattle.xs_earley.specs.Following.{more_next}
use Rattle.xs_earley.proofs.following.add_rests.Given as goal

abbrev pub invariant-begun : goal.invariant-begun
invariant-begun l = l.ranges.items ≡ l.initial.ranges.items ++ gathered (more_next l.facts) (take l.one-index l.begun)
