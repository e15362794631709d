use Rattle.std.proofs.Common.{arith}
use Rattle.xs_loose.proofs.Nesting.{nest_all}
use Rattle.xs_loose.proofs.nest.nest_by.Goals as goal

pub returns-clause-nest : goal.returns-clause-nest
returns-clause-nest c = nest_all c.args.g.now c.rules.rule c.rules.nest (omega (arith, c.rules-test.false, c.rules.auto.rule-end, c.rules-rule-end.ensures)) c.rules.invariant
