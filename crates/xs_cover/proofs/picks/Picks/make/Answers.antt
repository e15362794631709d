use Rattle.std.proofs.Common.{◌≡◌, ◌≤◌, ◌-◌, ℕ, List, inl, inr, sym, subst, ap, arith, ◌∙◌}
use Rattle.std.specs.BinaryHeap.{heap_items}
use Rattle.xs_gram.specs.Grammar.{Grammar, rule_of}
use Rattle.xs_cover.specs.Picks.{IsSetIn}
use Rattle.xs_cover.specs.Tables.{at}
use Rattle.xs_cover.proofs.Making.{set_low}
use Rattle.xs_cover.proofs.picks.Picks.make.Goals as goal

pub returns-then-number_at-left-clause-set : goal.returns-then-number_at-left-clause-set
returns-then-number_at-left-clause-set c = λ r there.
    let s = c.args.self.now in
    let g = c.args.two.now.text in
    let h = c.args.two.now.xml in
    let rule = c.args.rule in
    let entry = c.requires.first.entry in
    let non : c.non_of-non.result ≡ (rule_of g rule).non = c.non_of-non.ensures ∙ ap (λ (k : Grammar). (rule_of k rule).non) c.gram.ensures in
    let known : c.number_at.result ≡ at s.prices.nons.items (rule_of g rule).non = c.number_at.ensures ∙ ap (λ (l : List ℕ). at l c.non_of-non.result) c.deref.ensures.value ∙ ap (at s.prices.nons.items) non in
    let low : at s.prices.nons.items (rule_of g rule).non ≤ 1000000000 - c.args.left = omega (arith, c.if-number_at-left.true, known) in
    elim (c.requires.set r there) [
      | inl set ↦ set
      | inr is ↦ subst (λ k. IsSetIn g h s k) (sym is) (set_low g h s.prices.terms.items s.prices.nons.items s.forest s.waiting.items (heap_items s.ready) c.requires.sound.text c.requires.picks c.args.left rule (1000000000 - c.args.left) entry (omega (arith, entry.cost)) low)
    ]
