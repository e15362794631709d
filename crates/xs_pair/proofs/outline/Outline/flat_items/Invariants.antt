use Rattle.std.proofs.Common.{◌≡◌, take}
use Rattle.xs_pair.specs.Grammars.{flat_marks, numbering_in}
use Rattle.xs_pair.proofs.outline.Outline.flat_items.Given as goal

abbrev pub invariant-marks : goal.invariant-marks
invariant-marks l = l.items.items ≡ flat_marks (numbering_in l.self l.names) l.slots (take l.mark-index l.marks)
