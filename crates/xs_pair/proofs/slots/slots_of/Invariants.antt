use Rattle.std.proofs.Common.{◌≡◌, take}
use Rattle.xs_pair.specs.Marks as M
use Rattle.xs_pair.proofs.slots.slots_of.Given as goal

abbrev pub invariant-marks : goal.invariant-marks
invariant-marks l = M.shown l.slots.items ≡ M.slots_of (take l.mark-index l.marks)
