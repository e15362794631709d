use Rattle.std.proofs.Common.{◌≡◌, take}
use Rattle.xs_pair.specs.Fences as F
use Rattle.xs_pair.proofs.fences.fence_letters.Given as goal

abbrev pub invariant-units : goal.invariant-units
invariant-units l = l.letters.items ≡ F.fence_letters (take l.unit-index l.units)
