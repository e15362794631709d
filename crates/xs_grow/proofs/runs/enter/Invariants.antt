use Rattle.std.proofs.Common.{◌↔◌, ◌⊎◌, ℕ, take}
use Rattle.std.specs.List.{Contains}
use Rattle.xs_regex.specs.Automaton.{HasAt}
use Rattle.xs_grow.proofs.runs.enter.Given as goal

abbrev pub invariant-among : goal.invariant-among
invariant-among l = (k : ℕ) → Contains l.next.items k ↔ (Contains l.initial.next.items k ⊎ (Contains (take l.position-index l.among) k × HasAt l.p k l.symbol))
