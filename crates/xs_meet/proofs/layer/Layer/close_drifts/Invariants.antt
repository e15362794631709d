use Rattle.std.proofs.Common.{ℕ}
use Rattle.xs_meet.specs.declared.reached_pair.ReachedPair.{ReachedPair}
use Rattle.xs_meet.specs.Closed.{Drifts}
use Rattle.xs_meet.specs.Searches.{IsAt, IsDrifted}
use Rattle.xs_meet.proofs.SpreadLemmas.{GoesOn}
use Rattle.xs_meet.proofs.layer.Layer.close_drifts.Given as goal

abbrev pub invariant-places : goal.invariant-places
invariant-places l = record {
  goes : GoesOn (Drifts l.first l.second) l.initial.self l.self l.initial.pairs l.pairs l.place;
  drifted : (k : ℕ) (s : ReachedPair) → IsAt l.self.steps.items k s → IsDrifted l.first l.second l.initial.self.steps.items s;
}
