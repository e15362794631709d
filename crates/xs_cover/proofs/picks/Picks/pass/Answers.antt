use Rattle.std.proofs.Common.{inl, Some, ap, arith, ◌∙◌}
use Rattle.std.proofs.lemmas.Result.{on_ok_weaker}
use Rattle.xs_gram.specs.declared.parts.GItem.{GItem}
use Rattle.xs_gram.specs.Grammar.{Grammar, items}
use Rattle.xs_cover.specs.declared.prices.Prices.{Prices}
use Rattle.xs_cover.specs.Tables.{at}
use Rattle.xs_cover.proofs.Counting.{item_read}
use Rattle.xs_cover.proofs.Passing.{grown_on}
use Rattle.xs_cover.proofs.picks.Picks.pass.Goals as goal

pub add_front-requires-clause-item : goal.add_front-requires-clause-item
add_front-requires-clause-item c = item_read c.args.two.now.text c.args.rule c.items.dot c.items-all.result.now c.index-all-dot.result (c.items-all.ensures.items ∙ ap (λ (k : Grammar). items k c.args.rule) c.gram.ensures) c.items-test.true c.index-all-dot.is

pub returns-in-Some-clause-set : goal.returns-in-Some-clause-set
returns-in-Some-clause-set c =
    let g = c.args.two.now.text in
    let read = item_read g c.args.rule c.items.dot c.items-all.result.now c.index-all-dot.result (c.items-all.ensures.items ∙ ap (λ (k : Grammar). items k c.args.rule) c.gram.ensures) c.items-test.true c.index-all-dot.is in
    let missing = c.in-Some.ensures.some in
    inl (record {
      non = c.in-Some.non;
      place = c.in_ok-wait.ensures.there.0;
      dot = c.items.dot;
      slot = missing.0.0;
      in_list = c.in_ok-wait.ensures.there.1;
      item = read ∙ ap (λ (i : GItem). Some i) missing.0.1;
      unknown = omega (arith, missing.1, ap (λ (p : Prices). at p.nons.items c.in-Some.non) c.in_ok-wait.ensures.grown.prices);
    })

pub returns-clause-grown : goal.returns-clause-grown
returns-clause-grown c = on_ok_weaker c.add_ready.result (λ grown. grown_on c.args.self.now c.items.self c.add_ready.new.self c.items.invariant.grown grown) c.add_ready.ensures.grown
