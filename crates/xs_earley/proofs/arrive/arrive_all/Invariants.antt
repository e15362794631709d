use Rattle.std.proofs.Common.{◌≡◌, ◌++◌, ◌-◌, ◌≤◌, length, take}
use Rattle.xs_earley.specs.Arriving.{gathered, item_due, item_begun}
use Rattle.xs_earley.proofs.arrive.arrive_all.Given as goal

abbrev pub invariant-items : goal.invariant-items
invariant-items l = record {
  within : l.at ≤ length l.items;
  due : l.due.items ≡ l.initial.due.items ++ gathered (item_due l.g l.facts l.symbol) (take l.at l.items);
  fresh : l.fresh.items ≡ l.initial.fresh.items ++ gathered (item_begun l.facts l.symbol) (take l.at l.items);
}

abbrev pub decreases-items : goal.decreases-items
decreases-items l = length l.items - l.at
