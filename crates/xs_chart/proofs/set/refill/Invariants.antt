use Rattle.std.proofs.Common.{◌≡◌, take}
use Rattle.xs_chart.specs.Different.{AreDifferent}
use Rattle.xs_chart.proofs.set.refill.Given as goal

abbrev pub invariant-items : goal.invariant-items
invariant-items l = record {
  items : l.set.keys ≡ take l.item-index l.items;
  different : AreDifferent l.set.keys;
}
