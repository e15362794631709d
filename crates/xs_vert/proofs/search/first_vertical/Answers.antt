use Rattle.std.proofs.Common.{ℕ, ◌∙◌, below_more, subst, ap, length, arith}
use Rattle.xs_gram.specs.Grammar.{Grammar}
use Rattle.xs_searches.proofs.First.{at_none}
use Rattle.xs_vert.specs.Partners.{ArePartners, HasNoPartner, IsFirstPartner}
use Rattle.xs_vert.proofs.Partners.{first_shows, none_in_all}
use Rattle.xs_vert.proofs.search.first_vertical.Goals as goal

pub returns-in-Some-clause-some : goal.returns-in-Some-clause-some
returns-in-Some-clause-some c =
    let is : IsFirstPartner c.rules.searches c.rules.rule c.in-Some.vert = rw c.in-Some.is at c.in_ok-found.ensures.some in
    first_shows c.args.searches.now c.rules.rule c.in-Some.vert c.rules.invariant.none (subst (λ (g : Grammar). IsFirstPartner g c.rules.rule c.in-Some.vert) c.rules.invariant.same is)

pub rules-preserved : goal.rules-preserved
rules-preserved c = record {
  same = c.in_ok-found.ensures.same ∙ c.rules.invariant.same;
  none = below_more (λ p. (q : ℕ) → ArePartners c.args.searches.now p q → ⊥) c.rules.rule c.rules.invariant.none (subst (λ (g : Grammar). HasNoPartner g c.rules.rule) c.rules.invariant.same (at_none c.in_ok-found.found c.in_default.not-Some c.in_ok-found.ensures.none));
}

pub returns-clause-none : goal.returns-clause-none
returns-clause-none c = none_in_all c.args.searches.now c.rules.rule (omega (arith, c.rules-test.false, c.rules-rule-end.ensures, ap (λ (g : Grammar). length g.rules) c.grammar-g.ensures.same)) c.rules.invariant.none
