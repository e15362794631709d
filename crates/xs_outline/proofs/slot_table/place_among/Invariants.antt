use Rattle.std.proofs.Common.{◌≡◌, ℕ, ◌<◌, Some}
use Rattle.std.specs.Prelude.{slice_get}
use Rattle.xs_outline.specs.Tables.{name_list}
use Rattle.xs_outline.proofs.slot_table.place_among.Given as goal

abbrev pub invariant-names : goal.invariant-names
invariant-names l = (j : ℕ) → j < l.place → slice_get (name_list l.names) j ≡ Some l.name → ⊥
