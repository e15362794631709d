use Rattle.std.proofs.Common.{ℕ, ◌<◌}
use Rattle.xs_meet.specs.Searches.{EndsBoth}
use Rattle.xs_meet.proofs.meet.final_pair.Given as goal

abbrev pub invariant-places : goal.invariant-places
invariant-places l = record { none : (k : ℕ) → k < l.place → EndsBoth l.first l.second l.steps k → ⊥ }
