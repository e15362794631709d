use Rattle.std.proofs.Common.{take}
use Rattle.xs_closed.specs.Search.{IsListed, Adds, OneOf, IsPair}
use Rattle.xs_closed.proofs.visits.visit_firsts.Given as goal

abbrev pub invariant-firsts : goal.invariant-firsts
invariant-firsts l = record {
  listed : IsListed l.set l.pairs.items;
  more : Adds (OneOf (take l.first-index l.firsts) (λ a. IsPair a l.second)) l.initial.set l.initial.pairs.items l.set l.pairs.items;
}
