use Rattle.std.proofs.Common.{◌≡◌, ◌+◌, ◌≤◌, drop}
use Rattle.xs_cover.specs.Sizes.{capped}
use Rattle.xs_cover.specs.Costs.{slots_cost}
use Rattle.xs_cover.specs.Prices.{costs_of}
use Rattle.xs_cover.proofs.prices.Prices.slots_cost.Given as goal

abbrev pub invariant-items : goal.invariant-items
invariant-items l = record {
  so_far : capped (l.cost + slots_cost (costs_of l.self) (drop l.item-index l.item-items)) ≡ capped (slots_cost (costs_of l.self) l.item-items);
  low : l.cost ≤ 1000000000;
}
