use Rattle.std.proofs.Common.{◌≡◌, ◌++◌, take}
use Rattle.xs_pair.specs.Fences as F
use Rattle.xs_pair.proofs.balance.push_side.Given as goal

abbrev pub invariant-items : goal.invariant-items
invariant-items l = l.out.items ≡ l.initial.out.items ++ F.side_letters (take l.item-index l.items)
