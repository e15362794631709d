use Rattle.std.proofs.Common.{rules, ap, ◌∙◌}
use Rattle.xs_gram.specs.Grammar.{Grammar, items}
use Rattle.xs_cover.proofs.Counting.{item_read}
use Rattle.xs_cover.proofs.Stepping.{passing_on}
use Rattle.xs_cover.proofs.Sweeping.{items_more}
use Rattle.xs_cover.proofs.contexts.Contexts.pass_items.Goals as goal

pub pass_item-requires-clause-item : goal.pass_item-requires-clause-item
pass_item-requires-clause-item c =
    let is = c.items-item-items.result.now in
    (c.items.item-index, item_read c.args.two.now.text c.args.from.rule c.items.item-index is c.item-item.result (c.items-item-items.ensures.items ∙ ap (λ (k : Grammar). items k c.args.from.rule) c.gram.ensures) c.items-test.true c.item-item.is)

pub items-preserved : goal.items-preserved
items-preserved c =
    let g = c.args.two.now.text in
    let f = c.args.from in
    let known = c.items.invariant in
    let done = c.in_ok-lowered.ensures in
    let item = item_read g f.rule c.items.item-index c.items-item-items.result.now c.item-item.result (c.items-item-items.ensures.items ∙ ap (λ (k : Grammar). items k f.rule) c.gram.ensures) c.items-test.true c.item-item.is in
    record {
      contexts = done.contexts;
      passing = passing_on g c.args.two.now.xml c.args.prices.now c.items.self.steps.items c.pass_item.new.self.steps.items f done.grown known.passing;
      lowered = search rules;
      passed = items_more g c.args.prices.now c.args.self.now.arounds.items c.items.self.arounds.items f c.items.item-index c.item-item.result c.items.lowered c.in_ok-lowered.field-0 known.lowered item known.passed done.passed;
    }
