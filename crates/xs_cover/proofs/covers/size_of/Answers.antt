use Rattle.std.proofs.Common.{◌≡◌, ◌+◌, List, ℕ, sym, subst, ap, arith, ◌∙◌}
use Rattle.xs_gram.specs.Grammar.{Grammar, rule_of}
use Rattle.xs_cover.specs.Costs.{rule_cost}
use Rattle.xs_cover.specs.Prices.{costs_of}
use Rattle.xs_cover.specs.Sizes.{capped, IsLeast}
use Rattle.xs_cover.specs.Tables.{at}
use Rattle.xs_cover.proofs.Around.{reached_least, unreached, same_starts}
use Rattle.xs_cover.proofs.covers.size_of.Goals as goal

pub returns-then-around-gt-MOST : goal.returns-then-around-gt-MOST
returns-then-around-gt-MOST c = λ t shows.
    let tables = c.args.tables.now in
    let arounds = tables.contexts.arounds.items in
    let around : c.number_at-around.result ≡ at arounds (rule_of c.args.two.now.text c.args.rule).non =
    c.number_at-around.ensures ∙ ap (λ (l : List ℕ). at l c.non_of-non.result) c.deref.ensures.value ∙ ap (λ k. at arounds k) (c.non_of-non.ensures ∙ ap (λ (g : Grammar). (rule_of g c.args.rule).non) c.gram.ensures) in
    unreached c.args.two.now.text c.args.two.now.xml tables.prices c.requires.complete.numbers c.requires.complete.trees tables.contexts c.requires.sound.text c.requires.complete.read c.args.rule t (omega (arith, around, c.if-around-gt-MOST.true)) shows

pub returns : goal.returns
returns c =
    let tables = c.args.tables.now in
    let g = c.args.two.now.text in
    let h = c.args.two.now.xml in
    let arounds = tables.contexts.arounds.items in
    let around : c.number_at-around.result ≡ at arounds (rule_of c.args.two.now.text c.args.rule).non =
    c.number_at-around.ensures ∙ ap (λ (l : List ℕ). at l c.non_of-non.result) c.deref.ensures.value ∙ ap (λ k. at arounds k) (c.non_of-non.ensures ∙ ap (λ (g : Grammar). (rule_of g c.args.rule).non) c.gram.ensures) in
    let size : c.sum_of.result ≡ capped (at arounds (rule_of g c.args.rule).non + rule_cost g h (costs_of tables.prices) c.args.rule) = omega (arith, around, c.sum_of.ensures, c.rule_cost.ensures) in
    subst (λ n. IsLeast g h c.args.rule n) (sym size) (reached_least g h tables.prices c.requires.complete.numbers c.requires.complete.trees tables.contexts c.requires.sound.text c.requires.complete.read c.requires.sound.xml.built.slots (same_starts c.args.two.now c.requires.sound) c.args.rule c.requires.rule (omega (arith, around, c.if-around-gt-MOST.false)))
