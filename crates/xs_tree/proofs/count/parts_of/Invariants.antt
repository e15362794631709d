use Rattle.std.proofs.Common.{◌≡◌, map, take}
use Rattle.xs_tree.specs.Counts.{capped_count}
use Rattle.xs_tree.specs.Flat.{trees_of}
use Rattle.xs_tree.proofs.count.parts_of.Given as goal

abbrev pub invariant-parts : goal.invariant-parts
invariant-parts l = l.counts.items ≡ map capped_count (trees_of (take l.i l.parts))
