use Rattle.std.proofs.Common.{take}
use Rattle.xs_meet.specs.Searches.{NoneCalls}
use Rattle.xs_meet.specs.Sharing.{AreKnown}
use Rattle.xs_meet.proofs.trace.groups_between.Given as goal

abbrev pub invariant-calls : goal.invariant-calls
invariant-calls l = record { none : NoneCalls (AreKnown l.shared) (take l.call-index l.calls) l.others l.to.first l.to.second }
