use Rattle.std.proofs.Common.{◌≡◌}
use Rattle.xs_meet.specs.Rounds.{Finds}
use Rattle.xs_meet.proofs.sharing.Shared.follow_row.Given as goal

abbrev pub invariant-firsts : goal.invariant-firsts
invariant-firsts l = record {
  cells : l.pairs.cells ≡ l.initial.pairs.cells;
  finds : Finds l.nest l.initial.self l.self;
}
