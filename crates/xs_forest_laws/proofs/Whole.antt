-- What the finished loop gives: a root whose unfoldings are exactly the derivations.
use Rattle.std.proofs.Common.{◌≡◌, ℕ, zero, ◌<◌, List, length, ◌∙◌, arith}
use Rattle.xs_gram.specs.declared.places.Place.{Place}
use Rattle.xs_gram.specs.Grammar.{Grammar, items}
use Rattle.xs_gram.specs.Languages.{InLang}
use Rattle.xs_gram.specs.Places.{at_dot}
use Rattle.xs_chart_laws.specs.Charts.{HasPlace, IsChartOf}
use Rattle.xs_chart.specs.declared.item.Item.{Item}
use Rattle.xs_chart_laws.proofs.Language.{whole_of}
use Rattle.xs_chart_laws.proofs.Charts.{chart_all_stand, chart_has_all}
use Rattle.xs_forest_laws.specs.declared.span.SpanKey.{SpanKey}
use Rattle.xs_forest_laws.specs.declared.span.What.TheVariants.{Whole}
use Rattle.xs_forest_laws.specs.Forest.{Forest, IsRow}
use Rattle.xs_forest_laws.specs.Grown.{IsExactChart, IsLabelBy, IsGrown}
use Rattle.xs_forest_laws.specs.Placed.{IsOrdered, HasKeys}
use Rattle.xs_forest_laws.specs.Laws.{IsExact, IsRoot}
use Rattle.xs_forest_laws.proofs.Root.{exact}
use Rattle.xs_forest_laws.proofs.Grows.{grown_is_right}

-- the chart of a document has exactly what stands
pub exact_chart : (g : Grammar) (w : List ℕ) (sets : List (List Item)) → IsChartOf g w sets → IsExactChart g w (HasPlace g sets)
exact_chart g w sets chart = record { sound = chart_all_stand g w sets chart; complete = chart_has_all g w sets chart }

pub grown_is_exact : (g : Grammar) (w : List ℕ) (has : ℕ → Place → ℕ → Type 0) (f : Forest) (place : SpanKey → List ℕ) (ks : List SpanKey) → IsExactChart g w has → IsOrdered g has place ks → HasKeys f ks → length f ≡ length ks → IsGrown g w has f → InLang g w → (root : ℕ) × IsRoot g w f root × IsExact g w f root
grown_is_exact g w has f place ks chart ordered made all grown in_lang =
    let e = whole_of g w in_lang in
    let label : IsLabelBy g has (Whole g.start) zero (length w) = (e.0, e.1, chart.complete (at_dot e.0 (length (items g e.0))) 0 (length w) e.2) in
    let t = ordered.all (Whole g.start) zero (length w) label in
    let lt : t.0 < length f = omega (arith, t.1) in
    let row : IsRow f t.0 (Whole g.start) zero (length w) = (lt, made.keys t.0 lt ∙ t.2) in
    (t.0, row, exact g w f (grown_is_right g w has chart f grown) t.0 row)
