use Rattle.xs_loose.specs.Components.{AreRuleKeys}
use Rattle.xs_loose.proofs.components.rule_keys.Given as goal

abbrev pub invariant-rules : goal.invariant-rules
invariant-rules l = AreRuleKeys l.g l.comps l.rule l.keys.items
