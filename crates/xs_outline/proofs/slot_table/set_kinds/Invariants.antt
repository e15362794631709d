use Rattle.std.proofs.Common.{◌≡◌, ℕ, ◌<◌, ◌-◌, length, drop}
use Rattle.xs_gram.specs.Common.{kinds, lookup}
use Rattle.xs_outline.specs.Tables.{kind_in}
use Rattle.xs_outline.proofs.slot_table.set_kinds.Given as goal

abbrev pub invariant-items : goal.invariant-items
invariant-items l = (s : ℕ) → s < length l.initial.kinds → kind_in l.kinds s ≡ lookup s (kinds (drop (length l.items - l.done) l.items))
