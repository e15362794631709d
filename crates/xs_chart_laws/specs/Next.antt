-- One symbol more: what arrives in the set after it, and the fixed words of which a part was read.
use Rattle.std.specs.Prelude.{◌≡◌, ℕ, ◌+◌, ◌<◌, List, length, take, None, Contains}
use Rattle.xs_chart.specs.declared.item.Item.{Item}
use Rattle.xs_gram.specs.declared.parts.GItem.TheVariants.{Fixed}
use Rattle.xs_gram.specs.declared.places.Place.{Place}
use Rattle.xs_gram.specs.Grammar.{Grammar, ItemAt}
use Rattle.xs_chart_laws.specs.Reading.{Reads}
use Rattle.xs_chart_laws.specs.Steps.{Arrives}
use Rattle.xs_chart_laws.specs.Charts.{IsNumber, set_at, HasPlace}

-- from an item of the sets, of this origin, the document is read to place d in set k
abbrev pub IsDue : Grammar → List ℕ → List (List Item) → ℕ → Place → ℕ → Type 0
IsDue g w sets k d i = (j : ℕ) × (c : Place) × HasPlace g sets j c i × Arrives g w j c k d

-- From an item of the sets, of this state and origin, which stands before a fixed word, that many leading
-- symbols of the word are read up to place k, and the word has more.
pub record IsBegun (g : Grammar) (w : List ℕ) (sets : List (List Item)) (k state origin count : ℕ) : Type 0 where
  pub from : ℕ
  pub place : Place
  pub word : List ℕ
  pub number : IsNumber g state place
  pub outside : place.inside ≡ None
  pub item : ItemAt g place.rule place.dot (Fixed word)
  pub there : Contains (set_at sets from) (record { state = state; origin = origin })
  pub more : count < length word
  pub is : from + count ≡ k
  pub reads : Reads w from (take count word) k
