use Rattle.std.proofs.Common.{◌≡◌}
use Rattle.xs_meet.specs.Searches.{Fits, Extends, Departs}
use Rattle.xs_meet.specs.Sharing.{AreKnown}
use Rattle.xs_meet.proofs.SeedLemmas.{Below}
use Rattle.xs_meet.proofs.layer.Layer.seed_departures.Given as goal

abbrev pub invariant-places : goal.invariant-places
invariant-places l = record {
  cells : l.pairs.cells ≡ l.initial.pairs.cells;
  fits : Fits l.self l.pairs;
  more : Extends (Below l.place (Departs (AreKnown l.shared) l.first l.second l.steps)) l.initial.self l.self;
}
