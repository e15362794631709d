use Rattle.std.proofs.Common.{◌≡◌, ℕ, length, subst, arith}
use Rattle.xs_gram.specs.Grammar.{items}
use Rattle.xs_order.specs.Graphs.{AreLeading, AreByRule}
use Rattle.xs_order.proofs.Edges.{lists_more}
use Rattle.xs_order.proofs.leading.all_leading.Goals as goal

pub rules-preserved : goal.rules-preserved
rules-preserved c =
    let g = c.args.g.now in
    let nulls = c.args.nulls.now in
    rw c.in_ok-push.ensures.items (lists_more (λ p list. AreLeading g nulls (items g p) list) c.rules.rule c.rules.lists.items c.in_ok-list.list (rw c.items.ensures.items at c.in_ok-list.ensures) c.rules.invariant)

pub returns : goal.returns
returns c =
    let g = c.args.g.now in
    let nulls = c.args.nulls.now in
    let all : c.rules.rule ≡ length g.rules = omega (arith, c.rules-test.false, c.rules-rule-end.ensures) in
    subst (λ (k : ℕ). AreByRule (λ p list. AreLeading g nulls (items g p) list) k c.rules.lists.items) all c.rules.invariant
