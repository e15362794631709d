use Rattle.std.proofs.Common.{ℕ, ◌<◌}
use Rattle.xs_grow.specs.Candidates.{IsLater}
use Rattle.xs_grow.proofs.gather.any_later.Given as goal

abbrev pub invariant-dots : goal.invariant-dots
invariant-dots l = (n : ℕ) → n < l.dot → IsLater l.items n → ⊥
