use Rattle.std.proofs.Common.{below_more}
use Rattle.xs_check_laws.specs.Acceptance.{IsLightRule}
use Rattle.xs_searches.proofs.weights.light.Goals as goal

pub rules-preserved : goal.rules-preserved
rules-preserved c = below_more (λ p. IsLightRule c.args.g.now p) c.rules.rule c.rules.invariant (c.rule_weight-weight.result, c.rule_weight-weight.ensures, c.if-weight-gt-HEAVIEST.false)
