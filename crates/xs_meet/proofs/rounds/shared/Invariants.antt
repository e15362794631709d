use Rattle.std.proofs.Common.{◌≡◌}
use Rattle.xs_meet.specs.Sharing.{IsSharing, left_over}
use Rattle.xs_meet.proofs.rounds.shared.Given as goal

abbrev pub invariant-rounds : goal.invariant-rounds
invariant-rounds l = record {
  cells : l.pairs.cells ≡ l.initial.pairs.cells;
  sharing : IsSharing l.nest l.shared;
}

abbrev pub decreases-rounds : goal.decreases-rounds
decreases-rounds l = left_over l.shared
