use Rattle.std.proofs.Common.{◌∙◌, ◌++◌, ◌+◌, ◌<◌, ◌≤◌, [], List, ℕ, length, get_or, refl, ap, subst, arith}
use Rattle.std.specs.Prelude.{slice_get}
use Rattle.std.proofs.lemmas.Option.{get_or_from_slice_get, slice_get_within}
use Rattle.xs_tree.specs.Flat.{common_at, kids_of}
use Rattle.xs_outline.specs.Order.{order_of}
use Rattle.xs_outline.specs.Walk.{rest_text, tree_text}
use Rattle.xs_outline.proofs.Walking.{node_wordless, node_kids, order_is, slot_below, kid_can, rest_first, rest_none}
use Rattle.xs_outline.proofs.writer.child_at.Goals as goal

pub rule_of-rule-requires-clause-node : goal.rule_of-rule-requires-clause-node
rule_of-rule-requires-clause-node c = node_wordless c.args.two.now c.args.tree.now c.args.part c.requires.flat c.requires.part c.requires.node

pub bounds-orders-rule : goal.bounds-orders-rule
bounds-orders-rule c =
    let kids = node_kids c.args.two.now c.args.tree.now c.args.part c.rule_of-rule.result c.requires.flat c.requires.part c.rule_of-rule.ensures c.requires.node in
    slice_get_within c.args.orders.now c.rule_of-rule.result (order_of c.args.two.now c.rule_of-rule.result) (c.requires.orders c.rule_of-rule.result kids.0)

pub slot_name-name-requires-clause-rule : goal.slot_name-name-requires-clause-rule
slot_name-name-requires-clause-rule c =
    let kids = node_kids c.args.two.now c.args.tree.now c.args.part c.rule_of-rule.result c.requires.flat c.requires.part c.rule_of-rule.ensures c.requires.node in
    omega (arith, c.requires.names.rules, kids.0)

pub slot_name-name-requires-clause-slot : goal.slot_name-name-requires-clause-slot
slot_name-name-requires-clause-slot c =
    let kids = node_kids c.args.two.now c.args.tree.now c.args.part c.rule_of-rule.result c.requires.flat c.requires.part c.rule_of-rule.ensures c.requires.node in
    let order = order_is c.args.two.now c.args.orders.now c.rule_of-rule.result c.as_slice-order.result.now c.index-orders-rule.result c.requires.orders kids.0 c.as_slice-order.ensures c.index-orders-rule.is in
    slot_below c.args.two.now c.rule_of-rule.result c.args.dot c.as_slice-order.result.now order c.if-dot-order.true

pub kid-kid-requires-clause-slot : goal.kid-kid-requires-clause-slot
kid-kid-requires-clause-slot c =
    let kids = node_kids c.args.two.now c.args.tree.now c.args.part c.rule_of-rule.result c.requires.flat c.requires.part c.rule_of-rule.ensures c.requires.node in
    let order = order_is c.args.two.now c.args.orders.now c.rule_of-rule.result c.as_slice-order.result.now c.index-orders-rule.result c.requires.orders kids.0 c.as_slice-order.ensures c.index-orders-rule.is in
    let below = slot_below c.args.two.now c.rule_of-rule.result c.args.dot c.as_slice-order.result.now order c.if-dot-order.true in
    omega (arith, below, kids.1, c.requires.names.counts c.rule_of-rule.result)

pub returns-then-dot-order : goal.returns-then-dot-order
returns-then-dot-order c =
    let p = c.args.two.now in
    let f = c.args.tree.now in
    let rule = c.rule_of-rule.result in
    let slot = get_or c.as_slice-order.result.now c.args.dot 0 in
    let kids = node_kids p f c.args.part rule c.requires.flat c.requires.part c.rule_of-rule.ensures c.requires.node in
    let order = order_is p c.args.orders.now rule c.as_slice-order.result.now c.index-orders-rule.result c.requires.orders kids.0 c.as_slice-order.ensures c.index-orders-rule.is in
    let below = slot_below p rule c.args.dot c.as_slice-order.result.now order c.if-dot-order.true in
    let small : slot < length (kids_of (slice_get f.parts c.args.part)) = omega (arith, below, kids.1, c.requires.names.counts rule) in (
      omega (arith, c.kid-kid.ensures.before, c.requires.part),
      refl,
      kid_can c.see.ensures.pair.0 p f c.args.part rule slot c.kid-kid.result c.see.ensures.pair.1 c.requires.flat c.requires.part c.rule_of-rule.ensures c.requires.node c.kid-kid.ensures.kid small,
      λ depth. rest_first p f c.args.part rule c.args.dot slot c.kid-kid.result depth c.requires.flat c.requires.part c.rule_of-rule.ensures (subst (λ (z : List ℕ). c.args.dot < length z) order c.if-dot-order.true) (ap (λ (z : List ℕ). get_or z c.args.dot 0) order) c.kid-kid.ensures.kid small
          ∙ ap (λ (z : List ℕ). tree_text p depth z (common_at f c.kid-kid.result) ++ rest_text p depth (c.args.dot + 1) (common_at f c.args.part)) (get_or_from_slice_get _ slot _ [] c.slot_name-name.ensures),
    )

pub returns-else-dot-order : goal.returns-else-dot-order
returns-else-dot-order c depth =
    let p = c.args.two.now in
    let f = c.args.tree.now in
    let rule = c.rule_of-rule.result in
    let kids = node_kids p f c.args.part rule c.requires.flat c.requires.part c.rule_of-rule.ensures c.requires.node in
    let order = order_is p c.args.orders.now rule c.as_slice-order.result.now c.index-orders-rule.result c.requires.orders kids.0 c.as_slice-order.ensures c.index-orders-rule.is in
    rest_none p f c.args.part rule c.args.dot depth c.requires.flat c.requires.part c.rule_of-rule.ensures (subst (λ (z : List ℕ). length z ≤ c.args.dot) order c.if-dot-order.false)
