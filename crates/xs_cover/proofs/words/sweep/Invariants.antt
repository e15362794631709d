use Rattle.std.proofs.Common.{◌≡◌, ◌<◌, ◌≤◌, ◌+◌, ℕ, false}
use Rattle.xs_cover.specs.Tables.{IsLowered}
use Rattle.xs_cover.specs.Shortest.{AreRests, IsSettled}
use Rattle.xs_cover.proofs.words.sweep.Given as goal

abbrev pub invariant-positions : goal.invariant-positions
invariant-positions l = record {
  rests : AreRests l.automaton l.rests;
  lowered : IsLowered l.lowered l.initial.rests l.rests;
  settled : l.lowered ≡ false → (j : ℕ) → l.count ≤ j + l.done → j < l.count → IsSettled l.automaton l.initial.rests j;
}
