use Rattle.std.proofs.Common.{◌≡◌, ◌+◌, ◌≤◌, drop}
use Rattle.xs_cover.specs.Sizes.{capped, fixed_length}
use Rattle.xs_cover.proofs.prices.own_length.Given as goal

abbrev pub invariant-items : goal.invariant-items
invariant-items l = record {
  so_far : capped (l.length + fixed_length l.g (drop l.item-index l.item-items)) ≡ capped (fixed_length l.g l.item-items);
  low : l.length ≤ 1000000000;
}
