use Rattle.std.proofs.Common.{◌≡◌, take}
use Rattle.xs_meet.specs.Searches.{Fits, Extends, Among, Joins}
use Rattle.xs_meet.specs.Sharing.{AreKnown}
use Rattle.xs_meet.proofs.layer.Layer.visit_calls.Given as goal

abbrev pub invariant-calls : goal.invariant-calls
invariant-calls l = record {
  cells : l.pairs.cells ≡ l.initial.pairs.cells;
  fits : Fits l.self l.pairs;
  more : Extends (Among (take l.call-index l.calls) (λ h. Among l.others (λ k. Joins (AreKnown l.shared) h k l.from))) l.initial.self l.self;
}
