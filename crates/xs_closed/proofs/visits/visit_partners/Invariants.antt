use Rattle.std.proofs.Common.{take}
use Rattle.xs_meet.specs.Closed.{Marked}
use Rattle.xs_closed.specs.Rows.{marked}
use Rattle.xs_closed.specs.Search.{IsListed, Adds, OneOf, Joins}
use Rattle.xs_closed.proofs.visits.visit_partners.Given as goal

abbrev pub invariant-others : goal.invariant-others
invariant-others l = record {
  listed : IsListed l.set l.pairs.items;
  more : Adds (OneOf (take l.other-index l.others) (Joins (Marked (marked l.related)) l.call)) l.initial.set l.initial.pairs.items l.set l.pairs.items;
}
