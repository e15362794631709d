use Rattle.std.proofs.Common.{◌≡◌, take}
use Rattle.xs_order.specs.Rules.{nons_of}
use Rattle.xs_order.proofs.rules.nons_of.Given as goal

abbrev pub invariant-items : goal.invariant-items
invariant-items l = l.nons ≡ nons_of (take l.item-index l.items)
