use Rattle.std.proofs.Common.{◌≡◌, take}
use Rattle.xs_pair.specs.Marks as M
use Rattle.xs_pair.proofs.slots.slot_names.Given as goal

abbrev pub invariant-marks : goal.invariant-marks
invariant-marks l = l.names.items ≡ M.slot_names (take l.mark-index l.marks)
