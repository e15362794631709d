-- One more row of a forest that is being made: what its label and its alternatives have to be, over the rows
-- that are there.
use Rattle.std.specs.Prelude.{◌≡◌, ℕ, suc, ◌<◌, List, [], ◌∷◌, ◌++◌, length, Some, slice_get, Contains}
use Rattle.xs_gram.specs.declared.parts.GItem.{GItem}
use Rattle.xs_gram.specs.declared.places.Place.{Place}
use Rattle.xs_gram.specs.Grammar.{Grammar, items, IsRuleOf, ItemAt}
use Rattle.xs_gram.specs.Places.{at_dot}
use Rattle.xs_forest.specs.declared.row.Alt.{Alt}
use Rattle.xs_forest_laws.specs.declared.span.What.{What}
use Rattle.xs_forest_laws.specs.declared.span.What.TheVariants.{Whole, Front}
use Rattle.xs_forest_laws.specs.Forest.{Forest, key_of, key_at}
use Rattle.xs_forest_laws.specs.Grown.{ItemOver, WholeBy, FrontBy, IsAltBy, IsLabelBy}

-- the forest with one more row
abbrev pub more_of : Forest → What → ℕ → ℕ → List Alt → Forest
more_of f x i j alts = f ++ (key_at x i j, alts) ∷ []

-- The label is one that the chart has and that no row has, and the alternatives are exactly those that the
-- chart gives, each once.
pub record IsNext (g : Grammar) (w : List ℕ) (has : ℕ → Place → ℕ → Type 0) (f : Forest) (x : What) (i j : ℕ) (alts : List Alt) : Type 0 where
  pub label : IsLabelBy g has x i j
  pub new_label : (r : ℕ) → r < length f → key_of f r ≡ key_at x i j → ⊥
  pub sound : (a : Alt) → Contains alts a → IsAltBy g w has f x i j a
  pub wholes : (n q : ℕ) → x ≡ Whole n → IsRuleOf g n q → has j (at_dot q (length (items g q))) i → (a : Alt) × Contains alts a × WholeBy g has f n i j q a
  pub fronts : (p d m : ℕ) (item : GItem) → x ≡ Front p (suc d) → ItemAt g p d item → has m (at_dot p d) i → ItemOver g w has item m j → (a : Alt) × Contains alts a × FrontBy g w has f p d i j m item a
  pub once : (k l : ℕ) (a : Alt) → slice_get alts k ≡ Some a → slice_get alts l ≡ Some a → k ≡ l
