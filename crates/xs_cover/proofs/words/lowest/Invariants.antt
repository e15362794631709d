use Rattle.std.proofs.Common.{◌<◌, ◌≤◌, ℕ, Contains}
use Rattle.xs_cover.specs.Tables.{at}
use Rattle.xs_cover.proofs.words.lowest.Given as goal

abbrev pub invariant-positions : goal.invariant-positions
invariant-positions l = record {
  among : Contains l.positions l.least;
  lowest : (i : ℕ) → i < l.position-index → at l.rests l.least ≤ at l.rests (at l.positions i);
}
