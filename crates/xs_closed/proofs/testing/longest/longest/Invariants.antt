use Rattle.std.proofs.Common.{◌≡◌}
use Rattle.xs_meet.specs.Closed.{Marked}
use Rattle.xs_closed.specs.Rows.{marked}
use Rattle.xs_closed.specs.Testing.{IsRead, IsBest, rank}
use Rattle.xs_closed.proofs.testing.longest.longest.Given as goal

abbrev pub invariant-states : goal.invariant-states
invariant-states l = record {
  read : IsRead (Marked (marked l.related)) l.m l.n l.set l.low l.a l.need;
  best : IsBest (Marked (marked l.related)) l.m l.n l.set l.low l.a l.best;
  count : l.count ≡ rank l.set l.a;
}
