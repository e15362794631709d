use Rattle.xs_check_laws.proofs.Weights.{part_weighs_once, rule_weighs_once}
use Rattle.xs_check_laws.proofs.laws.weights_are_exact.Goals as goal

pub returns-clause-part : goal.returns-clause-part
returns-clause-part c = part_weighs_once

pub returns-clause-rule : goal.returns-clause-rule
returns-clause-rule c = rule_weighs_once
