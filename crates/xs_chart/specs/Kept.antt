-- How a chart is kept: the finished sets, and the last one, which is still open.
use Rattle.std.specs.Prelude.{◌≡◌, ◌≢◌, ℕ, ◌+◌, ◌^◌, ◌<◌, ◌≤◌, Bool, true, false, List, [], ◌∷◌, ◌++◌, length, map, slice_index_or, slice_range, All}
use Rattle.std.specs.List.Sorted.{IsNonDecreasingBy}
use Rattle.xs_chart.specs.declared.item.Item.{Item}
use Rattle.xs_chart.specs.declared.waiting.Waiter.{Waiter}
use Rattle.xs_chart.specs.declared.waiting.Waiting.{Waiting}
use Rattle.xs_chart.specs.Charted.{Charted, waiting_for, number_of, non_of, grouped}
use Rattle.xs_chart.specs.Different.{AreDifferent}

-- the finished lists, and then the last one if it is open
abbrev pub opened : {A : Type 0} → Bool → List A → A → List A
opened false finished last = finished
opened true finished last = finished ++ last ∷ []

-- what contracts see of such sets and the entries of their waiting lists
abbrev pub seen : Bool → List (List Item) → List Item → List (List Waiter) → List Waiter → Charted
seen o items last waits entries = record { sets = opened o items last; waits = opened o waits (grouped entries) }

-- the entries are grouped by their nonterminals
abbrev pub IsGrouped : List Waiter → Type 0
IsGrouped waits = IsNonDecreasingBy non_of waits

-- There are as many sets as a number of 32 bits counts, each of different items; the finished ones have grouped
-- entries of waiting lists.
pub record IsKept (is_open : Bool) (items : List (List Item)) (last : List Item) (waits : List (List Waiter)) : Type 0 where
  pub counted : length (opened is_open items []) < 2 ^ 32
  pub paired : length waits ≡ length items
  pub different : All AreDifferent items
  pub last_different : AreDifferent last
  pub grouped : All IsGrouped waits

-- the number of no set
abbrev pub no_set : ℕ
no_set = 4294967295

-- how many stretches that were found are kept
abbrev pub found_count : ℕ
found_count = 64

-- nothing was found
abbrev pub IsNone : Waiting → Type 0
IsNone w = w.set ≡ no_set

-- the entries of the nonterminal in a finished set stand there
pub record IsStretch (waits : List (List Waiter)) (w : Waiting) : Type 0 where
  pub finished : w.set < length waits
  pub within : w.from + w.count ≤ length (slice_index_or waits w.set [])
  pub is : waiting_for (slice_index_or waits w.set []) w.non ≡ map number_of (slice_range (slice_index_or waits w.set []) w.from (w.from + w.count))

-- nothing was found, or what was found is right, and the last set is open
abbrev pub IsFound : Bool → List (List Waiter) → Waiting → Type 0
IsFound is_open waits w = w.set ≢ no_set → (is_open ≡ true) × IsStretch waits w

-- what was found is right; where the last set is not open, nothing was
pub record IsFinding (is_open : Bool) (waits : List (List Waiter)) (found : List Waiting) : Type 0 where
  pub long : length found ≡ found_count
  pub right : All (IsFound is_open waits) found

-- what was found stays right
abbrev pub StaysFound : Bool → List (List Waiter) → Bool → List (List Waiter) → Type 0
StaysFound is_open waits opens new = (found : List Waiting) → IsFinding is_open waits found → IsFinding opens new found

-- the chart is kept, and what was found in it is right
pub record IsCharted (is_open : Bool) (items : List (List Item)) (last : List Item) (waits : List (List Waiter)) (found : List Waiting) : Type 0 where
  pub kept : IsKept is_open items last waits
  pub finding : IsFinding is_open waits found
