use Rattle.std.proofs.Common.{◌≡◌}
use Rattle.xs_meet.specs.Rounds.{Finds}
use Rattle.xs_meet.proofs.sharing.Shared.follow_caller.Given as goal

abbrev pub invariant-seconds : goal.invariant-seconds
invariant-seconds l = record {
  cells : l.pairs.cells ≡ l.initial.pairs.cells;
  finds : Finds l.nest l.initial.self l.self;
}
