-- The unfoldings of the root are the derivations of the document.
use Rattle.std.proofs.Common.{append-nil, ◌≡◌, ℕ, zero, [], ◌++◌, length, Some, refl, sym, ◌∙◌, List}
use Rattle.xs_gram.specs.Grammar.{Grammar}
use Rattle.xs_gram.specs.Derivations.{Parts, done, sub, Derivation, parts_yield}
use Rattle.xs_gram.specs.Languages.{Derives}
use Rattle.xs_chart_laws.proofs.Words.{Reads-slice, Reads-same}
use Rattle.xs_forest_laws.specs.declared.span.What.TheVariants.{Whole}
use Rattle.xs_forest_laws.specs.Forest.{Forest, IsRow, read, items_of, Spans, IsRight}
use Rattle.xs_forest_laws.specs.Laws.{IsExact}
use Rattle.xs_forest_laws.proofs.Read.{unfolding_fits}
use Rattle.xs_forest_laws.proofs.All.{fitting_is_unfolded}
use Rattle.xs_forest_laws.proofs.Once.{reading_is_once}
use Rattle.xs_class.proofs.Lists.{slice_all}
use Rattle.xs_chart_laws.proofs.Language.{Reads-all}

-- parts for a whole word are one derivation
pub tree_of : (g : Grammar) (w : List ℕ) (ps : Parts) → Spans g w (items_of g (Whole g.start)) 0 (length w) ps → (d : Derivation) × Derives g w d × (ps ≡ sub d.rule d.parts done)
tree_of g w (sub q qs done) s =
    let e = Reads-slice w 0 (parts_yield qs ++ []) (length w) s.1 in
    (record { rule = q; parts = qs }, ((s.0.0, s.0.1), sym (append-nil (parts_yield qs)) ∙ (sym e ∙ slice_all w)), refl)
tree_of g w (sub q qs _) s = absurd s.0.2
tree_of g w _ s = absurd s.0

pub parts_of : (g : Grammar) (w : List ℕ) (d : Derivation) → Derives g w d → Spans g w (items_of g (Whole g.start)) 0 (length w) (sub d.rule d.parts done)
parts_of g w d (fits, e) =
    ((fits.0, fits.1, tt), Reads-same w 0 w (parts_yield d.parts ++ []) (length w) (sym e ∙ sym (append-nil (parts_yield d.parts))) (Reads-all w))

pub exact : (g : Grammar) (w : List ℕ) (f : Forest) → IsRight g w f → (root : ℕ) → IsRow f root (Whole g.start) zero (length w) → IsExact g w f root
exact g w f right root row = record {
  derives = λ u un. tree_of g w (read g w f (Some root) u) (unfolding_fits g w f right u root (Whole g.start) 0 (length w) row un);
  unfolds = λ d h. fitting_is_unfolded g w f right root (Whole g.start) 0 (length w) (sub d.rule d.parts done) row (parts_of g w d h);
  once = λ u v hu hv e. reading_is_once g w f right u v (Some root) hu hv e;
}
