use Rattle.std.proofs.Common.{◌≡◌, ◌++◌, drop}
use Rattle.xs_gram.specs.Building.{EachOf, NamesAreThere, AreRowStarts}
use Rattle.xs_gram.specs.Places.{rule_places}
use Rattle.xs_gram.proofs.body.Body.push_rule.Given as goal

abbrev pub invariant-items : goal.invariant-items
invariant-items l = record {
  pending : l.places.items ++ rule_places l.self l.rule l.dot (drop l.dot l.items) ≡ l.fn.places.items ++ rule_places l.self l.rule 0 l.items;
  rest : EachOf (NamesAreThere l.self) (drop l.dot l.items);
  starts : AreRowStarts l.places.items l.rule l.dot l.row.items;
}
