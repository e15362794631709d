use Rattle.std.proofs.Common.{take}
use Rattle.xs_pair.specs.Upgrades.{AreCopies}
use Rattle.xs_pair.proofs.copying.copied_units.Given as goal

abbrev pub invariant-units : goal.invariant-units
invariant-units l = AreCopies (take l.unit-index l.units) l.all.items
