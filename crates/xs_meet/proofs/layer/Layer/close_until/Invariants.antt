use Rattle.std.proofs.Common.{◌≡◌, ℕ, ◌<◌, true, length}
use Rattle.xs_meet.specs.Searches.{EndsBoth, IsChained}
use Rattle.xs_meet.specs.Closed.{Leads}
use Rattle.xs_meet.specs.Sharing.{AreKnown}
use Rattle.xs_meet.proofs.SpreadLemmas.{GoesOn}
use Rattle.xs_meet.proofs.layer.Layer.close_until.Given as goal

abbrev pub invariant-places : goal.invariant-places
invariant-places l = record {
  goes : GoesOn (Leads (AreKnown l.shared) l.first l.second) l.initial.self l.self l.initial.pairs l.pairs l.place;
  seeds : l.self.seeds ≡ l.initial.self.seeds;
  chained : IsChained (AreKnown l.shared) l.first l.second (length l.initial.self.steps.items) l.self.steps.items;
  none : (k : ℕ) → k < l.place → l.stops ≡ true → EndsBoth l.first l.second l.self.steps.items k → ⊥;
}
