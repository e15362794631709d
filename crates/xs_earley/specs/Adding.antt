-- Which items are added to one set, by the places and origins that have a property.
use Rattle.std.specs.Prelude.{◌≡◌, ◌≢◌, ℕ, ◌<◌, List, ◌++◌, length, Bool, true, false, slice_index_or, Contains}
use Rattle.xs_chart.specs.declared.item.Item.{Item}
use Rattle.xs_gram.specs.declared.places.Place.{Place}
use Rattle.xs_gram.specs.Grammar.{Grammar, rule_of, IsRuleOf}
use Rattle.xs_gram.specs.Places.{at_dot}
use Rattle.xs_chart_laws.specs.Steps.{next_of, IsBefore, IsPassed}
use Rattle.xs_chart_laws.specs.Charts.{IsNumber, set_at, HasPlace}
use Rattle.xs_earley.specs.declared.rows.Stand.{Stand}
use Rattle.xs_earley.specs.declared.rows.Stand.TheVariants.{AtEnd, AtNon, AtWord, AtTerm, AtSkip}

-- set `at` has got items at its end, each with the property, and the other sets are as they were
pub record Puts (at : ℕ) (P : Item → Type 0) (old new : List (List Item)) : Type 0 where
  pub counted : length new ≡ length old
  pub more : List Item
  pub last : set_at new at ≡ set_at old at ++ more
  pub each : (item : Item) → Contains more item → P item
  pub others : (k : ℕ) → k ≢ at → set_at new k ≡ set_at old k

-- the item is of a place and an origin that have the property
abbrev pub IsOf : Grammar → (Place → ℕ → Type 0) → Item → Type 0
IsOf g P item = (c : Place) × IsNumber g item.state c × P c item.origin

-- set `at` has got items of places and origins that have the property, and has the items of all of them
pub record Adds (g : Grammar) (at : ℕ) (P : Place → ℕ → Type 0) (old new : List (List Item)) : Type 0 where
  pub puts : Puts at (IsOf g P) old new
  pub there : (c : Place) (i : ℕ) → P c i → HasPlace g new at c i

-- the place and the origin are these
abbrev pub Is : Place → ℕ → Place → ℕ → Type 0
Is d o c i = (c ≡ d) × (i ≡ o)

-- what is after the nonterminal, for an item of set `from` that stands before it
abbrev pub Completes : Grammar → List (List Item) → ℕ → ℕ → Place → ℕ → Type 0
Completes g sets from non c i = (d : Place) × HasPlace g sets from d i × IsBefore g d non × (c ≡ next_of d)

-- what is after the item at the place, where that may be passed over
abbrev pub Passes : Grammar → Place → ℕ → Place → ℕ → Type 0
Passes g d o c i = IsPassed g d × Is (next_of d) o c i

-- each rule of the nonterminal at its beginning
abbrev pub Calls : Grammar → ℕ → ℕ → Place → ℕ → Type 0
Calls g at non c i = (q : ℕ) × IsRuleOf g non q × Is (at_dot q 0) at c i

-- what a place leads to in set `at` beside what is passed over: at the end of a rule that began in an earlier
-- set what is after its nonterminal there, before a nonterminal its rules
abbrev pub Leads : Grammar → List (List Item) → ℕ → ℕ → Stand → Place → ℕ → Type 0
Leads g sets at o (AtEnd non) c i = (o < at) × Completes g sets o non c i
Leads g sets at o (AtNon non) c i = Calls g at non c i
Leads g sets at o (AtWord from end) c i = ⊥
Leads g sets at o (AtTerm t) c i = ⊥
Leads g sets at o (AtSkip k) c i = ⊥

-- where a nonterminal is marked, its rules are begun in set `at`, and no other rule has an item at its beginning there
pub record AreCalled (g : Grammar) (at : ℕ) (sets : List (List Item)) (called : List Bool) : Type 0 where
  pub begun : (non q : ℕ) → slice_index_or called non false ≡ true → IsRuleOf g non q → HasPlace g sets at (at_dot q 0) at
  pub only : (item : Item) (q : ℕ) → Contains (set_at sets at) item → IsNumber g item.state (at_dot q 0) → slice_index_or called (rule_of g q).non false ≡ true
