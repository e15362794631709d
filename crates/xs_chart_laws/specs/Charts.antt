-- The chart of a document: the items that stand, by the numbers of their places.
use Rattle.std.specs.Prelude.{◌≡◌, ◌↔◌, ℕ, suc, List, [], length, Some, slice_get, slice_index_or, Contains}
use Rattle.xs_chart.specs.declared.item.Item.{Item}
use Rattle.xs_chart.specs.Different.{AreDifferent}
use Rattle.xs_chart.specs.Charted.{Charted, items_of, waiting_of}
use Rattle.xs_gram.specs.declared.places.Place.{Place}
use Rattle.xs_gram.specs.Grammar.{Grammar}
use Rattle.xs_gram.specs.Chart.{Stands}
use Rattle.xs_gram.specs.Places.{all_places}
use Rattle.xs_chart_laws.specs.Steps.{IsBefore}

-- k is the number of the place
abbrev pub IsNumber : Grammar → ℕ → Place → Type 0
IsNumber g k c = slice_get (all_places g) k ≡ Some c

-- the items of set j, none where there is no such set
abbrev pub set_at : List (List Item) → ℕ → List Item
set_at sets j = slice_index_or sets j []

-- set j has the item of this place and origin
abbrev pub HasPlace : Grammar → List (List Item) → ℕ → Place → ℕ → Type 0
HasPlace g sets j c i = (k : ℕ) × IsNumber g k c × Contains (set_at sets j) (record { state = k; origin = i })

-- the item's number is that of a place that stands in set j
abbrev pub ItemStands : Grammar → List ℕ → Item → ℕ → Type 0
ItemStands g w item j = (c : Place) × IsNumber g item.state c × Stands g w c item.origin j

-- each item of the sets stands in its set
abbrev pub AllItemsStand : Grammar → List ℕ → List (List Item) → Type 0
AllItemsStand g w sets = (j : ℕ) (item : Item) → Contains (set_at sets j) item → ItemStands g w item j

-- The sets are the chart of the document: one set more than it has symbols, in each the items that
-- stand there and no others, none twice.
pub record IsChartOf (g : Grammar) (w : List ℕ) (sets : List (List Item)) : Type 0 where
  pub counted : length sets ≡ suc (length w)
  pub stand : (j : ℕ) (item : Item) → Contains (set_at sets j) item ↔ ItemStands g w item j
  pub different : (j : ℕ) → AreDifferent (set_at sets j)

-- the number is that of a place before the nonterminal
abbrev pub IsNumberBefore : Grammar → ℕ → ℕ → Type 0
IsNumberBefore g k non = (c : Place) × IsNumber g k c × IsBefore g c non

-- The waiting list of each nonterminal in each set has the numbers of that set's items whose place
-- stands before the nonterminal and no others, none twice.
pub record HasWaiters (g : Grammar) (chart : Charted) : Type 0 where
  pub exact : (j non n : ℕ) → Contains (waiting_of chart j non) n ↔ ((item : Item) × (slice_get (items_of chart j) n ≡ Some item) × IsNumberBefore g item.state non)
  pub once : (j non a b n : ℕ) → slice_get (waiting_of chart j non) a ≡ Some n → slice_get (waiting_of chart j non) b ≡ Some n → a ≡ b
