use Rattle.std.proofs.Common.{◌≡◌, ℕ, ◌<◌, List, length, Some}
use Rattle.std.specs.Prelude.{slice_get, slice_index_or}
use Rattle.xs_atoms.specs.Classed.{StayAll}
use Rattle.xs_atoms.proofs.numbers.numbers_of.Given as goal

abbrev pub invariant-classes : goal.invariant-classes
invariant-classes l =
    StayAll l.initial.distinct l.distinct
    × (length l.numbers.items ≡ l.class-index)
    × ((k : ℕ) (class : List (ℕ × ℕ)) → k < l.class-index → slice_get l.classes k ≡ Some class → slice_get l.distinct (slice_index_or l.numbers.items k 0) ≡ Some class)
