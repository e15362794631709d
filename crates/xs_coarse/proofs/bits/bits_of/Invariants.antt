use Rattle.std.proofs.Common.{◌≡◌, ℕ, ◌/◌, ◌%◌, ◌<◌, false, length, get_or}
use Rattle.xs_coarse.specs.Labels.{IsCell}
use Rattle.xs_coarse.proofs.bits.bits_of.Given as goal

abbrev pub invariant-cells : goal.invariant-cells
invariant-cells l = record {
  long : length l.bits.items ≡ l.place;
  each : (j : ℕ) → j < l.place → IsCell l.classes l.lefts (j / l.width) (j % l.width) (get_or l.bits.items j false);
}
