use Rattle.std.proofs.Common.{◌≡◌, take}
use Rattle.xs_meet.specs.Searches.{Fits, Extends, Among, Meets}
use Rattle.xs_meet.proofs.layer.Layer.visit_ends.Given as goal

abbrev pub invariant-others : goal.invariant-others
invariant-others l = record {
  cells : l.pairs.cells ≡ l.initial.pairs.cells;
  fits : Fits l.self l.pairs;
  more : Extends (Among (take l.place l.others) (λ f. Meets l.edge f l.from)) l.initial.self l.self;
}
