use Rattle.std.proofs.Common.{arith}
use Rattle.xs_atoms.proofs.Fixing.{rule_pushed}
use Rattle.xs_atoms.proofs.fixed.fixed_ranges.Goals as goal

pub rules-preserved : goal.rules-preserved
rules-preserved c =
    rule_pushed c.rules.ranges.items c.push_items.new.ranges.items c.args.g.now.rules c.rules.rule c.items.result.now (omega (arith, c.rules-rule-end.ensures)) c.items.ensures.items c.rules.invariant c.in_ok-push_items.ensures
