use Rattle.std.proofs.Common.{◌≡◌, ◌++◌, take}
use Rattle.xs_atoms.specs.Fixed.{items_ranges}
use Rattle.xs_atoms.proofs.fixed.push_items.Given as goal

abbrev pub invariant-items : goal.invariant-items
invariant-items l = l.ranges.items ≡ l.initial.ranges.items ++ items_ranges (take l.item-index l.items)
