use Rattle.std.proofs.Common.{◌≡◌, ◌-◌, length}
use Rattle.xs_pair.proofs.Places.{HasPlacesFrom}
use Rattle.xs_pair.proofs.directory.first_places.Given as goal

abbrev pub invariant-texts : goal.invariant-texts
invariant-texts l = record {
  long : length l.places.items ≡ length l.names;
  from : HasPlacesFrom l.list l.names (length l.list - l.done) l.places.items;
}
