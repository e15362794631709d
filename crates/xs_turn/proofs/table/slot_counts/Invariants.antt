use Rattle.std.proofs.Common.{◌≡◌, ℕ, ◌<◌, length}
use Rattle.std.specs.Prelude.{slice_index_or}
use Rattle.xs_gram.specs.Grammar.{items, slots}
use Rattle.xs_turn.proofs.table.slot_counts.Given as goal

abbrev pub invariant-rules : goal.invariant-rules
invariant-rules l = (length l.counts.items ≡ l.rule) × ((p : ℕ) → p < l.rule → slice_index_or l.counts.items p 0 ≡ length (slots (items l.g p)))
