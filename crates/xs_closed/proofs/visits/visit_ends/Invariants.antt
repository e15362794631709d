use Rattle.std.proofs.Common.{take}
use Rattle.xs_closed.specs.Search.{IsListed, Adds, OneOf, Meets}
use Rattle.xs_closed.proofs.visits.visit_ends.Given as goal

abbrev pub invariant-others : goal.invariant-others
invariant-others l = record {
  listed : IsListed l.set l.pairs.items;
  more : Adds (OneOf (take l.place l.others) (Meets l.edge)) l.initial.set l.initial.pairs.items l.set l.pairs.items;
}
