use Rattle.std.proofs.Common.{List, length, ap, arith}
use Rattle.xs_gram.specs.declared.parts.GItem.{GItem}
use Rattle.xs_gram.specs.Fences.{spread}
use Rattle.xs_loose.proofs.Stepping.{body_none, body_stepped, body_done, body_stands}
use Rattle.xs_loose.proofs.weighing.body_weight.Goals as goal

pub items-init : goal.items-init
items-init c = record {
  later = omega arith;
  within = omega arith;
  few = omega arith;
  summed = body_none c.args.g.now c.args.comps.now c.args.component (spread c.args.g.now c.args.rule) (c.requires.built.proper.level c.args.rule);
}

pub body_step-count-requires-clause-stands : goal.body_step-count-requires-clause-stands
body_step-count-requires-clause-stands c = body_stands c.args.g.now c.args.comps.now c.args.component c.args.rule c.items.place c.items.next c.items.sum (omega (arith, c.items.invariant.later, c.if-place-next.false)) c.items.invariant.summed (omega (arith, c.items-test.true, ap (λ (xs : List GItem). length xs) c.spread.ensures.items))

pub items-preserved : goal.items-preserved
items-preserved c =
    let stepped = body_stepped c.args.g.now c.args.comps.now c.args.component c.args.rule c.items.place c.items.next c.body_step-count.result.1 c.items.sum c.body_step-count.result.0 c.capped-sum.result (omega (arith, c.items.invariant.later, c.if-place-next.false)) c.items.invariant.summed (omega (arith, c.items-test.true, ap (λ (xs : List GItem). length xs) c.spread.ensures.items)) c.body_step-count.ensures (omega (arith, c.capped-sum.ensures, c.saturating_add.ensures)) in
    record { later = omega (arith, stepped.1); within = stepped.2; few = omega (arith, c.capped-sum.ensures); summed = stepped.0 }

pub returns-clause-weighs : goal.returns-clause-weighs
returns-clause-weighs c = λ m of. body_done c.args.g.now c.args.comps.now c.args.component c.items.next c.items.sum m (spread c.args.g.now c.args.rule) c.items.invariant.summed (omega (arith, c.items.invariant.later, c.items-test.false, ap (λ (xs : List GItem). length xs) c.spread.ensures.items)) of
