use Rattle.std.proofs.Common.{◌≡◌, take}
use Rattle.xs_meet.specs.Searches.{step, Fits, Extends, Among}
use Rattle.xs_meet.proofs.layer.Layer.visit_firsts.Given as goal

abbrev pub invariant-firsts : goal.invariant-firsts
invariant-firsts l = record {
  cells : l.pairs.cells ≡ l.initial.pairs.cells;
  fits : Fits l.self l.pairs;
  more : Extends (Among (take l.first-index l.firsts) (λ a s. s ≡ step a l.second l.from)) l.initial.self l.self;
}
