use Rattle.std.proofs.Common.{◌≡◌, ◌*◌, ◌<◌, ◌≤◌, length, Some}
use Rattle.std.specs.Prelude.{slice_get}
use Rattle.xs_atoms.specs.declared.sweep.Stretch.{Stretch}
use Rattle.xs_atoms.specs.Pages.{ArePages, AreWhole}
use Rattle.xs_atoms.proofs.pages.push_pages.Given as goal

abbrev pub invariant-pages : goal.invariant-pages
invariant-pages l =
    (l.at < length l.stretches)
    × ((t : Stretch) → slice_get l.stretches l.at ≡ Some t → t.start ≤ l.number * 256)
    × (length l.pages.items ≡ l.number)
    × AreWhole l.cells.items l.whole
    × ArePages l.stretches l.cells.items l.pages.items
