use Rattle.std.proofs.Common.{◌∙◌, ap, sym}
use Rattle.xs_order.specs.Leaves.{all_good}
use Rattle.xs_order.specs.Rules.{nons_of}
use Rattle.xs_order.proofs.Clauses.{clauses_same, clauses_more}
use Rattle.xs_order.proofs.rules.add_rule.Goals as goal

pub returns-then-not-all_good : goal.returns-then-not-all_good
returns-then-not-all_good c =
    let bad = ap (all_good c.args.leaves.now) (sym c.items-items.ensures.items) ∙ sym c.all_good.ensures ∙ c.if-not-all_good.true in
    clauses_same c.args.g.now c.args.leaves.now c.args.rule c.args.clauses.now.items bad c.requires.before

pub returns : goal.returns
returns c =
    let good = ap (all_good c.args.leaves.now) (sym c.items-items.ensures.items) ∙ sym c.all_good.ensures ∙ c.if-not-all_good.false in
    let premises = c.in_ok-premises.ensures ∙ ap nons_of c.items-items.ensures.items in
    rw c.in_ok-push.ensures.items (clauses_more c.args.g.now c.args.leaves.now c.args.rule c.args.clauses.now.items (record { head = c.non_of-head.result; premises = c.in_ok-premises.premises }) good (λ i. record { head = c.non_of-head.ensures i; premises = premises i }) c.requires.before)
