use Rattle.std.proofs.Common.{take}
use Rattle.xs_closed.specs.Search.{IsListed, Adds, OneOf, Meets}
use Rattle.xs_closed.proofs.visits.visit_boths.Given as goal

abbrev pub invariant-edges : goal.invariant-edges
invariant-edges l = record {
  listed : IsListed l.set l.pairs.items;
  more : Adds (OneOf (take l.place l.edges) (λ e. OneOf l.others (Meets e))) l.initial.set l.initial.pairs.items l.set l.pairs.items;
}
