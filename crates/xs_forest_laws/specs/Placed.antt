-- The list of labels of which rows are made, in order.
use Rattle.std.specs.Prelude.{◌≡◌, ℕ, ◌<◌, ◌≤◌, List, length, slice_index_or}
use Rattle.xs_gram.specs.declared.places.Place.{Place}
use Rattle.xs_gram.specs.Grammar.{Grammar}
use Rattle.xs_forest_laws.specs.declared.span.SpanKey.{SpanKey}
use Rattle.xs_forest_laws.specs.declared.span.What.{What}
use Rattle.xs_forest_laws.specs.Forest.{Forest, key_of, key_at, no_row}
use Rattle.xs_forest_laws.specs.Grown.{IsLabelBy}
use Rattle.xs_forest_laws.specs.Order.{IsLess}

-- label t of the list
abbrev pub key_in : List SpanKey → ℕ → SpanKey
key_in ks t = slice_index_or ks t no_row.0

-- The list has exactly the labels that the chart has, each once, in an order in which no place in the order
-- is less than one before it.
pub record IsOrdered (g : Grammar) (has : ℕ → Place → ℕ → Type 0) (place : SpanKey → List ℕ) (ks : List SpanKey) : Type 0 where
  pub each : (t : ℕ) → t < length ks → IsLabelBy g has (key_in ks t).what (key_in ks t).start (key_in ks t).end
  pub all : (x : What) (i j : ℕ) → IsLabelBy g has x i j → (t : ℕ) × (t < length ks) × (key_in ks t ≡ key_at x i j)
  pub differ : (s t : ℕ) → s < length ks → t < length ks → key_in ks s ≡ key_in ks t → s ≡ t
  pub rises : (s t : ℕ) → s ≤ t → t < length ks → IsLess (place (key_in ks t)) (place (key_in ks s)) → ⊥

-- row r is of label r of the list
pub record HasKeys (f : Forest) (ks : List SpanKey) : Type 0 where
  pub within : length f ≤ length ks
  pub keys : (r : ℕ) → r < length f → key_of f r ≡ key_in ks r
