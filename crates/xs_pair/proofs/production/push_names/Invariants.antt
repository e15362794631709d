use Rattle.std.proofs.Common.{◌≡◌, ◌++◌, take}
use Rattle.xs_pair.specs.Marks as M
use Rattle.xs_pair.proofs.production.push_names.Given as goal

abbrev pub invariant-marks : goal.invariant-marks
invariant-marks l = l.names.items ≡ l.initial.names.items ++ M.mark_names (take l.mark-index l.marks)
