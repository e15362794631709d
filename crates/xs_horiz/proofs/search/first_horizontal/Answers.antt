use Rattle.std.proofs.Common.{ℕ, ◌∙◌, ap, length, below_more, subst, arith}
use Rattle.xs_gram.specs.Grammar.{Grammar}
use Rattle.xs_searches.specs.Searching.{OverlapsAt}
use Rattle.xs_searches.proofs.First.{at_none}
use Rattle.xs_horiz.specs.Cuts.{HasNoCut, IsFirstCut}
use Rattle.xs_horiz.proofs.Cuts.{first_shows, none_in_all}
use Rattle.xs_horiz.proofs.search.first_horizontal.Goals as goal

pub returns-in-Some-clause-some : goal.returns-in-Some-clause-some
returns-in-Some-clause-some c =
    let is : IsFirstCut c.rules.searches c.rules.rule c.in-Some.horiz = rw c.in-Some.is at c.in_ok-found.ensures.some in
    first_shows c.args.searches.now c.rules.rule c.in-Some.horiz c.rules.invariant.none (subst (λ (g : Grammar). IsFirstCut g c.rules.rule c.in-Some.horiz) c.rules.invariant.same is)

pub rules-preserved : goal.rules-preserved
rules-preserved c = record {
  same = c.in_ok-found.ensures.same ∙ c.rules.invariant.same;
  none = below_more (λ p. (q : ℕ) → OverlapsAt c.args.searches.now p q → ⊥) c.rules.rule c.rules.invariant.none (subst (λ (g : Grammar). HasNoCut g c.rules.rule) c.rules.invariant.same (at_none c.in_ok-found.found c.in_default.not-Some c.in_ok-found.ensures.none));
}

pub returns-clause-none : goal.returns-clause-none
returns-clause-none c = none_in_all c.args.searches.now c.rules.rule (omega (arith, c.rules-test.false, c.rules-rule-end.ensures, ap (λ (g : Grammar). length g.rules) c.grammar-g.ensures.same)) c.rules.invariant.none
