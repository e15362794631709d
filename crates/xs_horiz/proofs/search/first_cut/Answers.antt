use Rattle.std.proofs.Common.{Bool, List, ◌∙◌, sym, ap, length, below_more, subst, arith}
use Rattle.xs_gram.specs.Grammar.{Grammar}
use Rattle.xs_gram.specs.Fences.{spread}
use Rattle.xs_screen.specs.Screens.{AreDoubts}
use Rattle.xs_searches.specs.Searching.{OverlapsAt}
use Rattle.xs_searches.proofs.First.{at_none}
use Rattle.xs_horiz.proofs.Cuts.{none_in_row}
use Rattle.xs_horiz.proofs.search.first_cut.Goals as goal

pub cuts-preserved : goal.cuts-preserved
cuts-preserved c = record {
  same = c.in_ok-found.ensures.same ∙ c.cuts.invariant.same;
  none = below_more (λ k. OverlapsAt c.args.searches.now c.args.rule k → ⊥) c.cuts.cut c.cuts.invariant.none (subst (λ (g : Grammar). OverlapsAt g c.args.rule c.cuts.cut → ⊥) c.cuts.invariant.same (at_none c.in_ok-found.found c.in_default.not-Some c.in_ok-found.ensures.none));
}

pub overlap_at-requires-clause-doubts : goal.overlap_at-requires-clause-doubts
overlap_at-requires-clause-doubts c = subst (λ (g : Grammar). AreDoubts g c.args.rule c.deref.result.now) (sym c.cuts.invariant.same) (subst (λ (bits : List Bool). AreDoubts c.args.searches.now c.args.rule bits) (sym c.deref.ensures.value) c.in_ok-doubts.ensures.doubts)

pub returns-clause-none : goal.returns-clause-none
returns-clause-none c = none_in_row c.args.searches.now c.args.rule c.cuts.cut (omega (arith, c.cuts-test.false, ap length c.spread.ensures.items, ap (λ (g : Grammar). length (spread g c.args.rule)) c.grammar-g.ensures.same)) c.cuts.invariant.none
