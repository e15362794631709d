-- The parts of a step by one symbol.
use Rattle.std.specs.Prelude.{◌≡◌, ◌↔◌, ℕ, suc, List, [], ◌∷◌, ◌++◌, length, take, Contains}
use Rattle.xs_chart.specs.declared.item.Item.{Item}
use Rattle.xs_chart.specs.Charted.{Charted, first_sets}
use Rattle.xs_gram.specs.declared.places.Place.{Place}
use Rattle.xs_gram.specs.Grammar.{Grammar}
use Rattle.xs_chart_laws.specs.Charts.{IsNumber}
use Rattle.xs_chart_laws.specs.Next.{IsDue}
use Rattle.xs_earley.specs.declared.begun.Begun.{Begun}

-- the items are those to which a document is read in set k
abbrev pub AreDueAt : Grammar → List ℕ → List (List Item) → ℕ → List Item → Type 0
AreDueAt g w sets k due = (item : Item) → Contains due item ↔ ((d : Place) × IsNumber g item.state d × IsDue g w sets k d item.origin)

-- the items are those to which a document is read in its last set, if the symbol is its next one
abbrev pub AreDue : Grammar → List ℕ → ℕ → List (List Item) → List Item → Type 0
AreDue g w s sets due = AreDueAt g (w ++ s ∷ []) sets (suc (length w)) due

-- the new word, begun words and chart begin with the old ones
pub record KeepsFirst (word more : List ℕ) (begun on : List (List Begun)) (old new : Charted) : Type 0 where
  pub word_kept : take (length word) more ≡ word
  pub begun_kept : take (length begun) on ≡ begun
  pub chart_kept : first_sets (length old.sets) new ≡ old
