use Rattle.std.proofs.Common.{◌↔◌, ℕ, take}
use Rattle.std.specs.List.{Contains}
use Rattle.xs_grow.specs.Running.{Enters}
use Rattle.xs_grow.proofs.runs.step.Given as goal

abbrev pub invariant-reached : goal.invariant-reached
invariant-reached l = (k : ℕ) → Contains l.next.items k ↔ Enters l.p l.at_start (take l.position-index l.reached) l.symbol k
