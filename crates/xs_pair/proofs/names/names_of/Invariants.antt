use Rattle.std.proofs.Common.{◌≡◌, take}
use Rattle.xs_pair.specs.Units as U
use Rattle.xs_pair.proofs.names.names_of.Given as goal

abbrev pub invariant-units : goal.invariant-units
invariant-units l = l.names.items ≡ U.names_of l.sort (take l.unit-index l.units)
