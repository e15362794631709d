use Rattle.std.proofs.Common.{ℕ, ◌<◌, length}
use Rattle.xs_screen.specs.Parting.{Parts, IsRowSettled}
use Rattle.xs_screen.proofs.groups.part_groups.Given as goal

abbrev pub invariant-firsts : goal.invariant-firsts
invariant-firsts l = record {
  parts : Parts l.initial.labels l.labels;
  rows : (h : ℕ) → h < l.first → IsRowSettled l.contents l.labels h (length l.contents);
}
