use Rattle.std.proofs.Common.{ℕ, take}
use Rattle.std.specs.List.{Contains}
use Rattle.xs_regex.specs.Marked.{Marked}
use Rattle.xs_regex.proofs.matching.some_marked.Given as goal

abbrev pub invariant-numbers : goal.invariant-numbers
invariant-numbers l = (k : ℕ) → Contains (take l.number-index l.numbers) k → Marked l.flags k → ⊥
