use Rattle.std.proofs.Common.{ℕ, ◌<◌}
use Rattle.xs_gram.specs.Grammar.{items}
use Rattle.xs_grow.specs.Candidates.{IsLater}
use Rattle.xs_grow.proofs.gather.has_later.Given as goal

abbrev pub invariant-rules : goal.invariant-rules
invariant-rules l = (p n : ℕ) → p < l.rule → IsLater (items l.g p) n → ⊥
