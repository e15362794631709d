-- Waiting lists while a set is closed.
use Rattle.std.specs.Prelude.{◌≡◌, ◌≢◌, ◌↔◌, ◌⊎◌, ℕ, ◌<◌, Bool, false, List, [], ◌∷◌, ◌++◌, Some, slice_get, slice_index_or, Contains}
use Rattle.xs_chart.specs.declared.item.Item.{Item}
use Rattle.xs_chart.specs.Charted.{Charted, items_of, waiting_of}
use Rattle.xs_gram.specs.Grammar.{Grammar}
use Rattle.xs_chart_laws.specs.Charts.{IsNumberBefore}

-- Number k was put in the waiting list, in set `at`, of the nonterminal before which the place of this
-- number stands, if it stands before one, and in no other list.
pub record Waited (g : Grammar) (at k state : ℕ) (old new : Charted) : Type 0 where
  pub elsewhere : (j non : ℕ) → j ≢ at → waiting_of new j non ≡ waiting_of old j non
  pub there : (non : ℕ) → (IsNumberBefore g state non × (waiting_of new at non ≡ waiting_of old at non ++ k ∷ [])) ⊎ ((IsNumberBefore g state non → ⊥) × (waiting_of new at non ≡ waiting_of old at non))

-- item n of the list stands before the nonterminal
abbrev pub IsWaiting : Grammar → List Item → ℕ → ℕ → Type 0
IsWaiting g items non n = (item : Item) × (slice_get items n ≡ Some item) × IsNumberBefore g item.state non

-- the waiting lists of set `at` have the numbers below k of items that stand before their nonterminal, each once
pub record WaitsBelow (g : Grammar) (chart : Charted) (at k : ℕ) : Type 0 where
  pub exact : (non n : ℕ) → Contains (waiting_of chart at non) n ↔ ((n < k) × IsWaiting g (items_of chart at) non n)
  pub once : (non a b n : ℕ) → slice_get (waiting_of chart at non) a ≡ Some n → slice_get (waiting_of chart at non) b ≡ Some n → a ≡ b

-- item k of the list does not act, by what is said of the states
abbrev pub IsIdle : List Bool → List Item → ℕ → Type 0
IsIdle acts items k = (d : Item) → slice_index_or acts (slice_index_or items k d).state false ≡ false
