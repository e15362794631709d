use Rattle.std.proofs.Common.{◌≡◌, take}
use Rattle.xs_pair.specs.Fences as F
use Rattle.xs_pair.proofs.fences.fence_pairs.Given as goal

abbrev pub invariant-units : goal.invariant-units
invariant-units l = l.pairs.items ≡ F.fence_pairs (take l.unit-index l.units)
