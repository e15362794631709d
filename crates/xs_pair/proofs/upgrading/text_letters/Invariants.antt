use Rattle.std.proofs.Common.{◌≡◌, take}
use Rattle.xs_pair.specs.Upgrades as U
use Rattle.xs_pair.proofs.upgrading.text_letters.Given as goal

abbrev pub invariant-units : goal.invariant-units
invariant-units l = l.letters.items ≡ U.text_letters (take l.unit-index l.units)
