use Rattle.std.proofs.Common.{take}
use Rattle.xs_meet.specs.Closed.{Marked}
use Rattle.xs_closed.specs.Rows.{marked}
use Rattle.xs_closed.specs.Search.{IsListed, Adds, OneOf, Joins}
use Rattle.xs_closed.proofs.visits.visit_calls.Given as goal

abbrev pub invariant-calls : goal.invariant-calls
invariant-calls l = record {
  listed : IsListed l.set l.pairs.items;
  more : Adds (OneOf (take l.call-index l.calls) (λ h. OneOf l.others (Joins (Marked (marked l.related)) h))) l.initial.set l.initial.pairs.items l.set l.pairs.items;
}
