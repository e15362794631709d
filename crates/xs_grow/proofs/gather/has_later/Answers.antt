use Rattle.std.proofs.Common.{List, ap, sym, ◌∙◌, subst, arith, inl, inr}
use Rattle.std.proofs.lemmas.Bool.{cases_eq}
use Rattle.xs_gram.specs.declared.parts.GItem.{GItem}
use Rattle.xs_gram.specs.Grammar.{items}
use Rattle.xs_grow.specs.Candidates.{IsLater}
use Rattle.xs_grow.proofs.gather.has_later.Goals as goal

pub rules-preserved : goal.rules-preserved
rules-preserved c = λ p n lt later. elim (cases_eq p c.rules.rule) [
  | inl e ↦ c.if-any_later.ensures n (subst (λ (z : List GItem). IsLater z n) (ap (λ z. items c.args.g.now z) e ∙ sym c.items.ensures.items) later)
  | inr ne ↦ c.rules.invariant p n (omega arith) later
]

pub returns : goal.returns
returns c = λ p n lt later. let end = c.rules-test.false in let all = c.rules-rule-end.ensures in c.rules.invariant p n (omega arith) later
