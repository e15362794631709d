use Rattle.std.proofs.Common.{◌≡◌}
use Rattle.xs_meet.specs.Searches.{Fits, Extends, Seeds}
use Rattle.xs_meet.proofs.SeedLemmas.{Below}
use Rattle.xs_meet.proofs.layer.Layer.seed_ends.Given as goal

abbrev pub invariant-places : goal.invariant-places
invariant-places l = record {
  cells : l.pairs.cells ≡ l.initial.pairs.cells;
  fits : Fits l.self l.pairs;
  more : Extends (Below l.place (Seeds l.seat l.net l.start l.steps)) l.initial.self l.self;
}
