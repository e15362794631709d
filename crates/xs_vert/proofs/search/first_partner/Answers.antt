use Rattle.std.proofs.Common.{◌∙◌, below_more, subst, ap, length, arith}
use Rattle.xs_gram.specs.Grammar.{Grammar}
use Rattle.xs_searches.proofs.First.{at_none}
use Rattle.xs_vert.specs.Partners.{ArePartners}
use Rattle.xs_vert.proofs.Partners.{none_in_row}
use Rattle.xs_vert.proofs.search.first_partner.Goals as goal

pub partners-preserved : goal.partners-preserved
partners-preserved c = record {
  same = c.in_ok-shared.ensures.same ∙ c.partners.invariant.same;
  none = below_more (λ q. ArePartners c.args.searches.now c.args.rule q → ⊥) c.partners.rule2 c.partners.invariant.none (subst (λ (g : Grammar). ArePartners g c.args.rule c.partners.rule2 → ⊥) c.partners.invariant.same (at_none c.in_ok-shared.shared c.in_default.not-Some c.in_ok-shared.ensures.none));
}

pub returns-clause-none : goal.returns-clause-none
returns-clause-none c = none_in_row c.args.searches.now c.args.rule c.partners.rule2 (omega (arith, c.partners-test.false, c.rules-rule2-end.ensures, ap (λ (g : Grammar). length g.rules) c.grammar-g.ensures.same)) c.partners.invariant.none
