use Rattle.std.proofs.Common.{List, ℕ, sym, subst}
use Rattle.xs_gram.specs.Grammar.{Grammar}
use Rattle.xs_cover.specs.Leaves.{AreLeaves}
use Rattle.xs_cover.specs.Steps.{AreContexts}
use Rattle.xs_cover.proofs.Making.{leaves_low}
use Rattle.xs_cover.proofs.covers.tables_of.Goals as goal

pub step_in_order-requires-clause-contexts : goal.step_in_order-requires-clause-contexts
step_in_order-requires-clause-contexts c = subst (λ (g : Grammar). AreContexts g c.args.two.now.xml c.in_ok-prices.field-0.prices c.in_ok-contexts.contexts) c.gram.ensures (c.in_ok-contexts.ensures c.args.two.now.xml)

pub returns : goal.returns
returns c =
    let g = c.args.two.now.text in
    let made = c.in_ok-prices.ensures in
    let words = c.in_ok-words.field-0.words.items in
    let leaves : AreLeaves g words c.in_ok-prices.field-0.prices.terms.items = subst (λ (l : List ℕ). AreLeaves g words l) (sym made.terms) c.in_ok-words.ensures in
    record {
      leaves = leaves;
      rows = made.rows;
      numbers = made.some.numbers;
      trees = made.some.trees;
      read = record {
        have = made.some.have;
        low = leaves_low g words c.in_ok-prices.field-0.prices.terms.items c.requires.text leaves;
        closed = made.closed;
        contexts = c.in_ok-settle.ensures.contexts;
        passed = c.in_ok-settle.ensures.passed;
      };
    }
