use Rattle.std.proofs.Common.{◌≡◌, take}
use Rattle.xs_meet.specs.Searches.{Fits, Extends, Among, Meets}
use Rattle.xs_meet.proofs.layer.Layer.visit_boths.Given as goal

abbrev pub invariant-edges : goal.invariant-edges
invariant-edges l = record {
  cells : l.pairs.cells ≡ l.initial.pairs.cells;
  fits : Fits l.self l.pairs;
  more : Extends (Among (take l.place l.edges) (λ e. Among l.others (λ f. Meets e f l.from))) l.initial.self l.self;
}
