-- Charts: items by the numbers of their places.
use Rattle.std.proofs.Common.{◌≡◌, ℕ, suc, ◌≤◌, List, length, take, subst, ◌↔◌}
use Rattle.std.specs.Prelude.{Contains}
use Rattle.xs_chart.specs.declared.item.Item.{Item}
use Rattle.xs_chart.specs.Different.{AreDifferent}
use Rattle.xs_gram.specs.declared.places.Place.{Place}
use Rattle.xs_gram.specs.Grammar.{Grammar}
use Rattle.xs_gram.specs.Sound.{IsBuilt, IsSound}
use Rattle.xs_gram.specs.Languages.{InLang, IsFront, IsViable}
use Rattle.xs_gram.specs.Chart.{Stands}
use Rattle.xs_gram.proofs.Numbers.{place_once}
use Rattle.xs_chart_laws.specs.Closed.{IsClosed, AllStand, HasAllThatStand, IsWhole, IsReached, IsFarthest}
use Rattle.xs_chart_laws.specs.Charts.{set_at, HasPlace, ItemStands, AllItemsStand, IsChartOf}
use Rattle.xs_chart_laws.proofs.Numbers.{stands_at_place, has_number, one_place}
use Rattle.xs_chart_laws.proofs.Language.{language_is_whole}
use Rattle.xs_chart_laws.proofs.Standing.{standing_is_closed}
use Rattle.xs_chart_laws.proofs.Completeness.{complete}
use Rattle.xs_chart_laws.proofs.Fronts.{front_is_reached, reached_by_more}

-- sets of which each item stands, by places
pub chart_stands : (g : Grammar) (w : List ℕ) (sets : List (List Item)) → AllItemsStand g w sets → AllStand g w (HasPlace g sets)
chart_stands g w sets all c i j (k, num, has) =
    let st = all j (record { state = k; origin = i }) has in
    subst (λ d. Stands g w d i j) (one_place g k st.0 c st.1 num) st.2

pub chart_all_stand : (g : Grammar) (w : List ℕ) (sets : List (List Item)) → IsChartOf g w sets → AllStand g w (HasPlace g sets)
chart_all_stand g w sets chart = chart_stands g w sets (λ j item has. (chart.stand j item).0 has)

pub chart_has_all : (g : Grammar) (w : List ℕ) (sets : List (List Item)) → IsChartOf g w sets → HasAllThatStand g w (HasPlace g sets)
chart_has_all g w sets chart c i j st =
    let n = has_number g c (stands_at_place g w c i j st) in
    (n.0, n.1, (chart.stand j (record { state = n.0; origin = i })).1 (c, n.1, st))

pub chart_is_standing : (g : Grammar) (w : List ℕ) (sets : List (List Item)) → IsChartOf g w sets → (c : Place) (i j : ℕ) → HasPlace g sets j c i ↔ Stands g w c i j
chart_is_standing g w sets chart c i j = (chart_all_stand g w sets chart c i j, chart_has_all g w sets chart c i j)

-- sets that are closed and of which all stands are the chart
pub closed_is_chart : (g : Grammar) (w : List ℕ) (sets : List (List Item)) → IsBuilt g → length sets ≡ suc (length w) → AllItemsStand g w sets → ((j : ℕ) → AreDifferent (set_at sets j)) → IsClosed g w (HasPlace g sets) → IsChartOf g w sets
closed_is_chart g w sets built counted all different closed = record {
  counted = counted;
  stand = λ j item. (all j item, stood j item);
  different = different;
}
  where
    stood : (j : ℕ) (item : Item) → ItemStands g w item j → Contains (set_at sets j) item
    stood j item (c, num, st) =
        let h = complete g w (HasPlace g sets) closed built c item.origin j st in
        subst (λ k. Contains (set_at sets j) (record { state = k; origin = item.origin })) (place_once g c h.0 item.state h.1 num) h.2

pub chart_language : (g : Grammar) (w : List ℕ) (sets : List (List Item)) → IsChartOf g w sets → InLang g w ↔ IsWhole g w (HasPlace g sets)
chart_language g w sets chart = language_is_whole g w (HasPlace g sets) (chart_has_all g w sets chart) (chart_all_stand g w sets chart)

-- a chart shows which fronts of the document begin a word of the language
pub chart_front : (g : Grammar) (w : List ℕ) (sets : List (List Item)) → IsSound g → IsChartOf g w sets → (k : ℕ) → k ≤ length w → IsFront g (take k w) ↔ IsReached g w (HasPlace g sets) k
chart_front g w sets sound chart k le =
    let standing = front_is_reached g w (λ j c i. Stands g w c i j) sound (standing_is_closed g w sound.built) (λ c i j st. st) k le in (
      (λ f. reached_by_more g w (λ j c i. Stands g w c i j) (HasPlace g sets) (chart_has_all g w sets chart) k (standing.0 f)),
      (λ r. standing.1 (reached_by_more g w (HasPlace g sets) (λ j c i. Stands g w c i j) (chart_all_stand g w sets chart) k r)),
    )

pub chart_viable : (g : Grammar) (w : List ℕ) (sets : List (List Item)) → IsSound g → IsChartOf g w sets → (k : ℕ) → IsViable g w k ↔ IsFarthest g w (HasPlace g sets) k
chart_viable g w sets sound chart k = (
  (λ v. (v.0, (front k v.0).0 v.1, (λ m le r. v.2 m le ((front m le).1 r)))),
  (λ v. (v.0, (front k v.0).1 v.1, (λ m le f. v.2 m le ((front m le).0 f)))),
)
  where
    front : (m : ℕ) → m ≤ length w → IsFront g (take m w) ↔ IsReached g w (HasPlace g sets) m
    front m le = chart_front g w sets sound chart m le
