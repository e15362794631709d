use Rattle.std.proofs.Common.{◌≡◌, take}
use Rattle.xs_pair.specs.Listing as L
use Rattle.xs_pair.proofs.production.rules_of.Given as goal

abbrev pub invariant-units : goal.invariant-units
invariant-units l = l.rules.items ≡ L.rules_of (take l.unit-index l.units)
