use Rattle.std.proofs.Common.{◌≡◌, ◌<◌, ◌≤◌, ℕ, true, Some, slice_get}
use Rattle.xs_gram.specs.declared.parts.GItem.{GItem}
use Rattle.xs_order.specs.Graphs.{is_nullable}
use Rattle.xs_order.proofs.leading.first_full.Given as goal

abbrev pub invariant-places : goal.invariant-places
invariant-places l = (k : ℕ) (item : GItem) → l.from ≤ k → k < l.place → slice_get l.items k ≡ Some item → is_nullable l.g l.nulls item ≡ true
