use Rattle.std.proofs.Common.{◌<◌, length, reverse}
use Rattle.xs_meet.specs.Sharing.{AreKnown}
use Rattle.xs_meet.specs.Traces.{IsTraced}
use Rattle.xs_meet.proofs.trace.read_trace.Given as goal

abbrev pub invariant-links : goal.invariant-links
invariant-links l = record {
  within : l.at < length l.layer.steps.items;
  traced : IsTraced (AreKnown l.shared) l.first l.second l.layer.steps.items l.at l.place (reverse l.pieces.items);
}

abbrev pub decreases-links : goal.decreases-links
decreases-links l = l.at
