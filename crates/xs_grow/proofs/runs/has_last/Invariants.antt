use Rattle.std.proofs.Common.{ℕ, take}
use Rattle.std.specs.List.{Contains}
use Rattle.xs_grow.proofs.runs.has_last.Given as goal

abbrev pub invariant-reached : goal.invariant-reached
invariant-reached l = (k : ℕ) → Contains (take l.position-index l.reached) k → Contains l.p.last k → ⊥
