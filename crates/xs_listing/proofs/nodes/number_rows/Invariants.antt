use Rattle.std.proofs.Common.{◌≡◌, length}
use Rattle.xs_listing.specs.Making.{AreMade}
use Rattle.xs_listing.proofs.nodes.number_rows.Given as goal

abbrev pub invariant-rows : goal.invariant-rows
invariant-rows l = record {
  long : length l.numbers.items ≡ l.counter;
  made : AreMade l.g l.doc l.forest l.marks l.builder l.numbers.items;
}
