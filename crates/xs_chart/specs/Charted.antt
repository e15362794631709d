-- What contracts see of a chart: its sets, and who waits in each.
use Rattle.std.specs.Prelude.{ℕ, ◌-◌, List, [], ◌∷◌, ◌++◌, length, map, filter, nat_eq, nat_lt, slice_index_or, slice_set, take, if◌then◌else◌}
use Rattle.xs_chart.specs.declared.item.Item.{Item}
use Rattle.xs_chart.specs.declared.waiting.Waiter.{Waiter}

-- Each set is the list of its items in the order in which they were added. Beside each stand the entries of its waiting lists, grouped by
-- the nonterminals in ascending order; those of one nonterminal stand in the order in which they were put there.
pub record Charted : Type 0 where
  pub sets : List (List Item)
  pub waits : List (List Waiter)

-- a chart has fewer sets than this, so that 32 bits have the number of each and of one more
abbrev pub set_limit : ℕ
set_limit = 4294967295

-- the number of the last set
abbrev pub last_set : Charted → ℕ
last_set chart = length chart.sets - 1

-- the items of a set
abbrev pub items_of : Charted → ℕ → List Item
items_of chart set = slice_index_or chart.sets set []

abbrev pub number_of : Waiter → ℕ
number_of waiter = waiter.number

abbrev pub non_of : Waiter → ℕ
non_of waiter = waiter.non

-- the numbers that wait for the nonterminal, in the order of the entries
abbrev pub waiting_for : List Waiter → ℕ → List ℕ
waiting_for waits non = map number_of (filter (λ waiter. nat_eq non waiter.non) waits)

-- the entry before those of its own nonterminal and of greater ones
abbrev pub put_first : Waiter → List Waiter → List Waiter
put_first w [] = w ∷ []
put_first w (x ∷ xs) = if nat_lt x.non w.non then x ∷ put_first w xs else w ∷ x ∷ xs

-- the entries grouped by their nonterminals; those of one keep their order
abbrev pub grouped : List Waiter → List Waiter
grouped [] = []
grouped (w ∷ waits) = put_first w (grouped waits)

-- the entries of a set's waiting lists
abbrev pub waits_of : Charted → ℕ → List Waiter
waits_of chart set = slice_index_or chart.waits set []

-- the numbers of the items of a set that wait there for the nonterminal
abbrev pub waiting_of : Charted → ℕ → ℕ → List ℕ
waiting_of chart set non = waiting_for (waits_of chart set) non

-- the first sets of a chart, with their waiting lists
abbrev pub first_sets : ℕ → Charted → Charted
first_sets count chart = record { sets = take count chart.sets; waits = take count chart.waits }

-- all sets but the last one
abbrev pub before_last : Charted → Charted
before_last chart = first_sets (last_set chart) chart

-- the chart with these items more, which stand last in the last set
abbrev pub with_items : Charted → List Item → Charted
with_items chart items = record {
  sets = slice_set chart.sets (last_set chart) (items_of chart (last_set chart) ++ items);
  waits = chart.waits;
}

-- and with one item more
abbrev pub with_item : Charted → Item → Charted
with_item chart item = with_items chart (item ∷ [])

-- the item of a state, with this origin
abbrev pub item_from : ℕ → ℕ → Item
item_from origin state = record { state = state; origin = origin }

-- the items of the states in their order, all with this origin
abbrev pub items_from : ℕ → List ℕ → List Item
items_from origin states = map (item_from origin) states
