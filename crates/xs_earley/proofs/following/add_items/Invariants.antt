use Rattle.std.proofs.Common.{◌≡◌, ◌++◌, take}
use Rattle.xs_earley.specs.Arriving.{gathered}
use Rattle.xs_earley.specs.Following.{item_next}
use Rattle.xs_earley.proofs.following.add_items.Given as goal

abbrev pub invariant-items : goal.invariant-items
invariant-items l = l.ranges.items ≡ l.initial.ranges.items ++ gathered (item_next l.g l.facts) (take l.item-index l.items)
