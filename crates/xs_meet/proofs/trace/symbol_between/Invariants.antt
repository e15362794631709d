use Rattle.std.proofs.Common.{take}
use Rattle.xs_meet.proofs.TraceLemmas.{NoneReads}
use Rattle.xs_meet.proofs.trace.symbol_between.Given as goal

abbrev pub invariant-edges : goal.invariant-edges
invariant-edges l = record { none : NoneReads (take l.place l.edges) l.others l.to.first l.to.second }
