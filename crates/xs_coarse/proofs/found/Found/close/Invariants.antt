use Rattle.xs_coarse.specs.Arcs.{Goes, IsClosedBelow}
use Rattle.xs_coarse.specs.Found.{IsMore, IsNotBelow}
use Rattle.xs_coarse.proofs.found.Found.close.Given as goal

abbrev pub invariant-places : goal.invariant-places
invariant-places l = record {
  more : IsMore l.initial.self l.self;
  closed : IsClosedBelow (Goes l.labels l.first l.second) l.place l.self;
  without : IsNotBelow l.goal l.place l.self.pairs.items;
}
