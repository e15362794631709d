use Rattle.std.proofs.Common.{take}
use Rattle.xs_closed.specs.Search.{IsListed, Adds, OneOf, IsPair}
use Rattle.xs_closed.proofs.visits.visit_seconds.Given as goal

abbrev pub invariant-seconds : goal.invariant-seconds
invariant-seconds l = record {
  listed : IsListed l.set l.pairs.items;
  more : Adds (OneOf (take l.second-index l.seconds) (λ b. IsPair l.first b)) l.initial.set l.initial.pairs.items l.set l.pairs.items;
}
