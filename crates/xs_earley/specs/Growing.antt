-- The last set while its items are settled.
use Rattle.std.specs.Prelude.{◌≡◌, ◌↔◌, ℕ, suc, ◌<◌, ◌≤◌, List, length, Some, slice_get, Contains}
use Rattle.xs_chart.specs.declared.item.Item.{Item}
use Rattle.xs_chart.specs.Charted.{Charted, items_of, waiting_of}
use Rattle.xs_gram.specs.declared.places.Place.{Place}
use Rattle.xs_gram.specs.Grammar.{Grammar}
use Rattle.xs_chart_laws.specs.Steps.{IsSettled}
use Rattle.xs_chart_laws.specs.Charts.{IsNumber, IsNumberBefore, set_at, HasPlace, ItemStands, AllItemsStand}
use Rattle.xs_earley.specs.Adding.{Puts}

-- the item stands in set `at`
abbrev pub Standing : Grammar → List ℕ → ℕ → Item → Type 0
Standing g w at item = ItemStands g w item at

-- set `at` has got items at its end, each of which stands there, and the other sets are as they were
abbrev pub Grown : Grammar → List ℕ → ℕ → List (List Item) → List (List Item) → Type 0
Grown g w at old new = Puts at (Standing g w at) old new

-- all that item k of set `at` leads to there is there
abbrev pub IsSettledAt : Grammar → List (List Item) → ℕ → ℕ → Type 0
IsSettledAt g sets at k = (item : Item) (c : Place) → slice_get (set_at sets at) k ≡ Some item → IsNumber g item.state c → IsSettled g (HasPlace g sets) at c item.origin

-- the waiting list of a nonterminal in a set has the numbers of the items that stand before it there
abbrev pub IsExact : Grammar → Charted → ℕ → ℕ → Type 0
IsExact g chart j non = (n : ℕ) → Contains (waiting_of chart j non) n ↔ ((item : Item) × (slice_get (items_of chart j) n ≡ Some item) × IsNumberBefore g item.state non)

-- set `at` is the last of the chart, all items stand, and earlier sets have exact waiting lists
pub record IsOpen (g : Grammar) (w : List ℕ) (at : ℕ) (chart : Charted) : Type 0 where
  pub last : length chart.sets ≡ suc at
  pub within : at ≤ length w
  pub stand : AllItemsStand g w chart.sets
  pub waiting : (j non : ℕ) → j < at → IsExact g chart j non
