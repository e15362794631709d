use Rattle.std.proofs.Common.{◌≡◌, ℕ, ◌+◌, ◌<◌, ◌≤◌, ◌++◌, List, length, Some}
use Rattle.std.specs.Prelude.{slice_get, slice_index_or}
use Rattle.xs_atoms.specs.declared.sweep.Stretch.{Stretch}
use Rattle.xs_atoms.specs.Pages.{IsAtomIn}
use Rattle.xs_atoms.proofs.pages.push_cells.Given as goal

abbrev pub invariant-cells : goal.invariant-cells
invariant-cells l =
    ((more : List ℕ) × (length more ≡ l.low) × (l.cells.items ≡ l.initial.cells.items ++ more))
    × ((k : ℕ) → k < l.low → IsAtomIn l.stretches (l.begin + k) (slice_index_or l.cells.items (length l.initial.cells.items + k) 0))
    × (l.at < length l.stretches)
    × ((t : Stretch) → slice_get l.stretches l.at ≡ Some t → t.start ≤ l.begin + l.low)
