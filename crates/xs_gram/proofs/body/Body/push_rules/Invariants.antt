use Rattle.std.proofs.Common.{◌≡◌, ◌++◌, drop}
use Rattle.xs_gram.specs.Building.{EachOf, NamesAreThere, AreStarts}
use Rattle.xs_gram.specs.Places.{places_from, all_places}
use Rattle.xs_gram.proofs.body.Body.push_rules.Given as goal

abbrev pub invariant-rules : goal.invariant-rules
invariant-rules l = record {
  pending : l.places.items ++ places_from l.self l.number (drop l.number l.self.rules) ≡ all_places l.self;
  rest : EachOf (λ r. EachOf (NamesAreThere l.self) r.items) (drop l.number l.self.rules);
  starts : AreStarts l.self l.places.items l.number l.starts.items;
}
