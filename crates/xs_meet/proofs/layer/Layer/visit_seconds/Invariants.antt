use Rattle.std.proofs.Common.{◌≡◌, take}
use Rattle.xs_meet.specs.Searches.{step, Fits, Extends, Among}
use Rattle.xs_meet.proofs.layer.Layer.visit_seconds.Given as goal

abbrev pub invariant-seconds : goal.invariant-seconds
invariant-seconds l = record {
  cells : l.pairs.cells ≡ l.initial.pairs.cells;
  fits : Fits l.self l.pairs;
  more : Extends (Among (take l.second-index l.seconds) (λ b s. s ≡ step l.first b l.from)) l.initial.self l.self;
}
