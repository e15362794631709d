use Rattle.xs_coarse.specs.Arcs.{Slips, IsClosedBelow}
use Rattle.xs_coarse.specs.Found.{IsMore}
use Rattle.xs_coarse.proofs.found.Found.close_slips.Given as goal

abbrev pub invariant-places : goal.invariant-places
invariant-places l = record {
  more : IsMore l.initial.self l.self;
  closed : IsClosedBelow (Slips l.first l.second) l.place l.self;
}
