use Rattle.std.proofs.Common.{◌≡◌, length}
use Rattle.xs_coarse.proofs.FoundLemmas.{AreMarkedFrom}
use Rattle.xs_coarse.proofs.found.Found.wipe.Given as goal

abbrev pub invariant-places : goal.invariant-places
invariant-places l = record {
  height : l.self.height ≡ l.initial.self.height;
  width : l.self.width ≡ l.initial.self.width;
  pairs : l.self.pairs ≡ l.initial.self.pairs;
  room : length l.self.words.items ≡ length l.initial.self.words.items;
  marked : AreMarkedFrom l.place l.self.width l.self.pairs.items l.self.words.items;
}
