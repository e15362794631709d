use Rattle.std.proofs.Common.{◌≡◌, drop}
use Rattle.xs_order.specs.Leaves.{all_good}
use Rattle.xs_order.proofs.leaves.Leaves.all_good.Given as goal

abbrev pub invariant-items : goal.invariant-items
invariant-items l = all_good l.self (drop l.item-index l.items) ≡ all_good l.self l.items
