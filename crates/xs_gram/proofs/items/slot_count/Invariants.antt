use Rattle.std.proofs.Common.{◌≡◌, ◌+◌, ◌≤◌, length, drop}
use Rattle.xs_gram.specs.Grammar.{slots}
use Rattle.xs_gram.proofs.items.slot_count.Given as goal

abbrev pub invariant-items : goal.invariant-items
invariant-items l = record {
  so_far : l.count + length (slots (drop l.item-index l.items)) ≡ length (slots l.items);
  within : l.count ≤ l.item-index;
}
