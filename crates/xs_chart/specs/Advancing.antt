-- What is after the items that wait for a nonterminal, and what the last set gets of it.
use Rattle.std.specs.Prelude.{◌≡◌, ℕ, ◌<◌, List, ◌++◌, length, Some, slice_get, slice_index_or, Contains}
use Rattle.xs_chart.specs.declared.item.Item.{Item}
use Rattle.xs_chart.specs.Charted.{Charted, items_of, waiting_of, last_set, with_items, item_from}

-- the item of the state after this one's, with its origin
abbrev pub after : List ℕ → Item → Item
after next item = item_from item.origin (slice_index_or next item.state 0)

-- the list has got items at its end, each with the property, and has all that have it
pub record HasMore (P : Item → Type 0) (old new : List Item) : Type 0 where
  pub more : List Item
  pub is : new ≡ old ++ more
  pub each : (item : Item) → Contains more item → P item
  pub there : (item : Item) → P item → Contains new item

-- it is after the item of one of the numbers
abbrev pub IsAfter : List ℕ → List Item → List ℕ → Item → Type 0
IsAfter next items numbers item = (k : ℕ) × Contains numbers k × (was : Item) × (slice_get items k ≡ Some was) × (item ≡ after next was)

-- of each number there is an item, and of its state a next one
abbrev pub AreThere : List ℕ → List Item → List ℕ → Type 0
AreThere next items numbers = (k : ℕ) → Contains numbers k → (was : Item) × (slice_get items k ≡ Some was) × (was.state < length next)

-- the last set has got what is after the items that wait for the nonterminal in a set before it
pub record Advanced (next : List ℕ) (from non : ℕ) (old new : Charted) : Type 0 where
  pub more : List Item
  pub is : new ≡ with_items old more
  pub each : (item : Item) → Contains more item → IsAfter next (items_of old from) (waiting_of old from non) item
  pub there : (item : Item) → IsAfter next (items_of old from) (waiting_of old from non) item → Contains (items_of new (last_set old)) item
