use Rattle.std.proofs.Common.{ℕ, ◌+◌, ◌-◌, ◌≤◌, drop, length}
use Rattle.xs_class.specs.Classes.{Has}
use Rattle.xs_auto.proofs.common.first_common.Given as goal

abbrev pub invariant-merge : goal.invariant-merge
invariant-merge l = record {
  left_in : l.i ≤ length l.left;
  right_in : l.j ≤ length l.right;
  first : (s : ℕ) → Has l.left s → Has l.right s → Has (drop l.i l.left) s;
  second : (s : ℕ) → Has l.left s → Has l.right s → Has (drop l.j l.right) s;
}

abbrev pub decreases-merge : goal.decreases-merge
decreases-merge l = (length l.left - l.i) + (length l.right - l.j)
