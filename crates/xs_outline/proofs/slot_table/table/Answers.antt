use Rattle.std.proofs.Common.{◌<◌, ◌∙◌, sym, ap, subst, arith, length, List, ℕ}
use Rattle.xs_gram.specs.Laws.{Every}
use Rattle.xs_gram.specs.Grammar.{Grammar, slots, items}
use Rattle.xs_gram.specs.Common.{kinds}
use Rattle.xs_gram.proofs.Lookup.{length-keys}
use Rattle.xs_gram.specs.declared.parts.GItem.{GItem}
use Rattle.xs_outline.proofs.Ordering.{slots_few}
use Rattle.xs_outline.proofs.Pairs.{slots_are}
use Rattle.xs_outline.proofs.slot_table.table.Goals as goal

pub names_in-requires-clause-few : goal.names_in-requires-clause-few
names_in-requires-clause-few c =
    let few = slots_few c.items-items.result.now in
    let small = c.items-items.ensures.small.items c.args.rule in
    let same = ap (λ (z : List GItem). length z) c.items-items.ensures.items in
    omega (arith, few, small, same, c.slots_in-count.ensures)

pub kinds_in-requires : goal.kinds_in-requires
kinds_in-requires c =
    let its = c.items-items.result.now in
    let its_are = c.items-items.ensures.items ∙ ap (λ (g : Grammar). items g c.args.rule) c.gram.ensures in
    let long = ap (λ (z : List ℕ). length z) (slots_are its) ∙ length-keys (kinds its) ∙ sym c.slots_in-count.ensures in
    let numbers = subst (λ (z : List GItem). Every (λ s. s < length (slots z)) (slots z)) (sym its_are) (c.requires.numbers c.args.rule).below in
    subst (λ n. Every (λ s. s < n) (slots its)) long numbers
