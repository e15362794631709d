use Rattle.std.proofs.Common.{ℕ, List, subst, arith}
use Rattle.xs_coarse_net.specs.Renaming.{IsRenamed}
use Rattle.xs_coarse_net.proofs.Wholes.{rules_more, rule_grown, base_next}
use Rattle.xs_coarse_net.proofs.whole.whole_net.Goals as goal

pub rules-init : goal.rules-init
rules-init c = record { base = omega (arith, c.nons.ensures); laid = λ q low. absurd (omega (arith, low)) }

pub rules-preserved : goal.rules-preserved
rules-preserved c = record {
  base = omega (arith, c.in_ok-base.ensures, c.rules.invariant.base, base_next c.args.site.now.g.now c.rules.rule);
  laid = rules_more c.rules.rule c.in_ok-lay_rule.ensures.grows c.rules.invariant.laid c.in_ok-lay_rule.ensures.laid;
}

pub returns : goal.returns
returns c = record {
  within = c.len-states.ensures.within;
  uses = c.in_ok-uses.ensures;
  renamed = subst (λ (l : List ℕ). IsRenamed l c.in_ok-net.net c.in_ok-merged.merged) c.deref.ensures.value c.in_ok-merged.ensures;
  laid = λ q low. rule_grown c.in_ok-net.ensures (c.rules.invariant.laid q (omega (arith, low, c.rules-test.false, c.rules.auto.rule-end, c.rules-rule-end.ensures)));
}
