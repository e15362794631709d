use Rattle.std.proofs.Common.{◌≡◌, ◌++◌, drop}
use Rattle.xs_gram.specs.Fences.{spread_items}
use Rattle.xs_gram.proofs.spread.spread_of.Given as goal

abbrev pub invariant-items : goal.invariant-items
invariant-items l = l.out.items ++ spread_items l.fences (drop l.item-index l.items) ≡ spread_items l.fences l.items
