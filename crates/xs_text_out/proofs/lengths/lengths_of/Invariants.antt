use Rattle.std.proofs.Common.{take}
use Rattle.xs_tree.specs.Flat.{trees_of}
use Rattle.xs_text_out.specs.Printed.{AreLengths}
use Rattle.xs_text_out.proofs.lengths.lengths_of.Given as goal

abbrev pub invariant-parts : goal.invariant-parts
invariant-parts l = AreLengths l.g (trees_of (take l.part l.t.parts)) l.lengths.items
