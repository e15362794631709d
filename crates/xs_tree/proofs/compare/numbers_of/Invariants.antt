use Rattle.std.proofs.Common.{map, take}
use Rattle.xs_tree.specs.Flat.{trees_of}
use Rattle.xs_tree.specs.Tables.{part_of}
use Rattle.xs_tree.proofs.Numbering.{SoFar}
use Rattle.xs_tree.proofs.compare.numbers_of.Given as goal

abbrev pub invariant-parts : goal.invariant-parts
invariant-parts l = SoFar (map part_of l.fn.shapes.keys) (map part_of l.shapes.keys) (trees_of (take l.i l.parts)) l.numbers.items
