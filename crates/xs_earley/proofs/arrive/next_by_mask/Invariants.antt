use Rattle.std.proofs.Common.{◌≡◌, ℕ, ◌-◌, ◌<◌, ◌≤◌, false, length, get_or}
use Rattle.xs_chart.specs.declared.item.Item.{Item}
use Rattle.xs_earley.specs.Masks.{has_bit}
use Rattle.xs_earley.proofs.arrive.next_by_mask.Given as goal

abbrev pub invariant-items : goal.invariant-items
invariant-items l = record {
  from : l.from ≤ l.at;
  within : l.at ≤ length l.items;
  idle : (k : ℕ) (d : Item) → l.from ≤ k → k < l.at → has_bit (get_or l.masks (get_or l.items k d).state 0) l.atom ≡ false;
}

abbrev pub decreases-items : goal.decreases-items
decreases-items l = length l.items - l.at
