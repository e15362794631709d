use Rattle.std.proofs.Common.{◌≡◌}
use Rattle.xs_meet.specs.Rounds.{Finds}
use Rattle.xs_meet.proofs.sharing.Shared.follow.Given as goal

abbrev pub invariant-places : goal.invariant-places
invariant-places l = record {
  cells : l.pairs.cells ≡ l.initial.pairs.cells;
  finds : Finds l.nest l.initial.self l.self;
}
