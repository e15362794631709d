use Rattle.std.proofs.Common.{ℕ, ◌<◌}
use Rattle.xs_check_laws.specs.Acceptance.{IsLightRule}
use Rattle.xs_searches.proofs.weights.light.Given as goal

abbrev pub invariant-rules : goal.invariant-rules
invariant-rules l = (p : ℕ) → p < l.rule → IsLightRule l.g p
