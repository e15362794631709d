use Rattle.std.proofs.Common.{get_or, refl, arith}
use Rattle.std.proofs.lemmas.List.Elements.{Contains-get_or}
use Rattle.xs_loose.proofs.Summing.{rules_none, rules_more, component_is}
use Rattle.xs_loose.proofs.weighing.component_weight.Goals as goal

pub rules-init : goal.rules-init
rules-init c = record { few = omega arith; summed = λ m of. rules_none c.args.g.now c.args.comps.now c.requires.built.range c.requires.comps c.args.component c.args.rules.now c.requires.rules m of }

pub body_weight-body-requires-clause-rule : goal.body_weight-body-requires-clause-rule
body_weight-body-requires-clause-rule c = c.requires.rules.only (get_or c.args.rules.now c.rules.rule-index 0) (Contains-get_or c.args.rules.now c.rules.rule-index 0 c.rules-test.true)

pub rules-preserved : goal.rules-preserved
rules-preserved c = record {
  few = omega (arith, c.capped-sum.ensures);
  summed = λ m of. rules_more c.args.g.now c.args.comps.now c.requires.built.range c.requires.comps c.args.component c.args.rules.now c.requires.rules m of c.rules.rule-index (get_or c.args.rules.now c.rules.rule-index 0) c.body_weight-body.result c.rules.sum c.capped-sum.result c.rules-test.true refl (c.body_weight-body.ensures.weighs m of) c.capped-sum.ensures (c.rules.invariant.summed m of);
}

pub returns : goal.returns
returns c = λ m of. component_is c.args.g.now c.args.comps.now c.requires.built.range c.requires.comps c.args.component c.args.members.now c.args.rules.now c.requires.members c.requires.rules c.rules.rule-index c.rules.sum c.capped.result m (omega (arith, c.rules-test.false, c.rules.auto.rule-index-end)) of (c.rules.invariant.summed m of) (omega (arith, c.capped.ensures, c.saturating_add.ensures, c.saturating_mul.ensures))
