use Rattle.std.proofs.Common.{◌≡◌, ◌-◌, ◌<◌, ◌≤◌, length, Some}
use Rattle.std.specs.Prelude.{slice_get}
use Rattle.xs_atoms.specs.declared.sweep.Stretch.{Stretch}
use Rattle.xs_atoms.proofs.pages.current.Given as goal

abbrev pub invariant-stretches : goal.invariant-stretches
invariant-stretches l = (l.at < length l.stretches) × ((t : Stretch) → slice_get l.stretches l.at ≡ Some t → t.start ≤ l.symbol)

abbrev pub decreases-stretches : goal.decreases-stretches
decreases-stretches l = length l.stretches - l.at
