use Rattle.std.proofs.Common.{◌≡◌, drop}
use Rattle.std.specs.Prelude.{◌↔◌}
use Rattle.xs_pair.specs.Marks.{slot_names}
use Rattle.xs_pair.proofs.slots.are_slots.Given as goal

abbrev pub invariant-marks : goal.invariant-marks
invariant-marks l = (slot_names l.marks ≡ l.names) ↔ (slot_names (drop l.mark-index l.marks) ≡ l.rest)
