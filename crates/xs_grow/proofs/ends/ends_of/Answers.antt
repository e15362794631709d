use Rattle.std.proofs.Common.{◌≡◌, ◌∙◌, Some, sym, ap, subst}
use Rattle.std.specs.Prelude.{ℕ, List, Contains}
use Rattle.xs_gram.specs.declared.parts.GItem.{GItem}
use Rattle.xs_gram.specs.Grammar.{Grammar, ItemAt}
use Rattle.xs_regex.specs.declared.position.Position.{Position}
use Rattle.xs_regex.specs.Automaton.{IsWellFormed}
use Rattle.xs_chart_laws.proofs.Spelling.{term_agrees, skip_agrees}
use Rattle.xs_grow.specs.Lists.{Appends}
use Rattle.xs_grow.specs.Candidates.{call_at}
use Rattle.xs_grow.proofs.ListLemmas.{appends_all}
use Rattle.xs_grow.proofs.Ending.{term_ends, skip_ends}
use Rattle.xs_grow.proofs.ends.ends_of.Goals as goal

-- the item that is told apart is the one of the rule
told : (g : Grammar) (p n : ℕ) (item same : GItem) → ItemAt g p n item → item ≡ same → ItemAt g p n same
told g p n item same at is = at ∙ ap (λ i. Some i) is

pub ends_from-requires-clause-formed : goal.ends_from-requires-clause-formed
ends_from-requires-clause-formed c =
    let it = c.requires.item in
    subst (λ (a : Position). IsWellFormed a) (sym c.term.ensures) (term_agrees c.args.g.now c.requires.ends.built it.0 it.1 c.in-Term.term c.in-Term.slot (told c.args.g.now it.0 it.1 _ _ it.2 c.in-Term.is)).formed

pub ends_from-requires-in-Skip-clause-formed : goal.ends_from-requires-in-Skip-clause-formed
ends_from-requires-in-Skip-clause-formed c =
    let it = c.requires.item in
    subst (λ (a : Position). IsWellFormed a) (sym c.skip.ensures) (skip_agrees c.args.g.now c.requires.ends.built it.0 it.1 c.in-Skip.skip (told c.args.g.now it.0 it.1 _ _ it.2 c.in-Skip.is)).formed

pub returns-in_ok-ends-in-Term : goal.returns-in_ok-ends-in-Term
returns-in_ok-ends-in-Term c =
    let it = c.requires.item in
    let all = rw c.term.ensures at c.in_ok-ends-in-Term.ensures in
    rw c.in-Term.is (term_ends c.args.g.now c.args.doc.now c.args.calls.now c.requires.ends.built it.0 it.1 c.in-Term.term c.in-Term.slot c.args.at c.in_ok-ends-in-Term.ends.items (told c.args.g.now it.0 it.1 _ _ it.2 c.in-Term.is) all)

pub returns-in_ok-ends-in-Skip : goal.returns-in_ok-ends-in-Skip
returns-in_ok-ends-in-Skip c =
    let it = c.requires.item in
    let all = rw c.skip.ensures at c.in_ok-ends-in-Skip.ensures in
    rw c.in-Skip.is (skip_ends c.args.g.now c.args.doc.now c.args.calls.now c.requires.ends.built it.0 it.1 c.in-Skip.skip c.args.at c.in_ok-ends-in-Skip.ends.items (told c.args.g.now it.0 it.1 _ _ it.2 c.in-Skip.is) all)

pub returns-in_ok-numbers-in-Non : goal.returns-in_ok-numbers-in-Non
returns-in_ok-numbers-in-Non c =
    let calls = c.args.calls.now in
    let call = call_at c.in-Non.non c.args.at in
    let P = λ (n : ℕ). Contains calls (call, n) in
    let all = appends_all P c.numbers.new.out.items (subst (λ (z : List ℕ). Appends P z c.numbers.new.out.items) c.new-ends.ensures.items c.in_ok-numbers-in-Non.ensures) in
    rw c.in-Non.is all
