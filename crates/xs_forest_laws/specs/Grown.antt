-- What a forest that is made from a chart has, by tests on the chart alone. Throughout `has j c i` says that
-- set j of the chart has the item of place c and origin i.
use Rattle.std.specs.Prelude.{◌≡◌, ℕ, zero, suc, ◌<◌, ◌≤◌, List, length, None, Some, ◌⊎◌, slice_get, slice_range, Contains}
use Rattle.xs_gram.specs.declared.parts.GItem.{GItem}
use Rattle.xs_gram.specs.declared.parts.GItem.TheVariants.{Fixed, Term, Non, Skip}
use Rattle.xs_gram.specs.declared.places.Place.{Place}
use Rattle.xs_gram.specs.Grammar.{Grammar, items, IsRuleOf, ItemAt, IsTermWord, IsSkipWord}
use Rattle.xs_gram.specs.Places.{at_dot}
use Rattle.xs_chart_laws.specs.Reading.{Reads}
use Rattle.xs_chart_laws.specs.Closed.{AllStand, HasAllThatStand}
use Rattle.xs_forest.specs.declared.row.Alt.{Alt}
use Rattle.xs_forest_laws.specs.declared.span.What.{What}
use Rattle.xs_forest_laws.specs.declared.span.What.TheVariants.{Whole, Front}
use Rattle.xs_forest_laws.specs.Forest.{Forest, key_of, alts_of, IsRow, FrontAt, ItemRow}

-- the sets have exactly the items that stand
pub record IsExactChart (g : Grammar) (w : List ℕ) (has : ℕ → Place → ℕ → Type 0) : Type 0 where
  pub sound : AllStand g w has
  pub complete : HasAllThatStand g w has

-- a rule of the nonterminal is finished over the stretch
abbrev pub IsFinished : Grammar → (ℕ → Place → ℕ → Type 0) → ℕ → ℕ → ℕ → Type 0
IsFinished g has n i j = (q : ℕ) × IsRuleOf g n q × has j (at_dot q (length (items g q))) i

-- the item stands over the stretch: a fixed word is read, a terminal or an ignorable has the word that
-- stands there, a rule of a nonterminal is finished
abbrev pub ItemOver : Grammar → List ℕ → (ℕ → Place → ℕ → Type 0) → GItem → ℕ → ℕ → Type 0
ItemOver g w has (Fixed v) m j = Reads w m v j
ItemOver g w has (Term t s) m j = (m ≤ j) × (j ≤ length w) × IsTermWord g t (slice_range w m j)
ItemOver g w has (Skip k) m j = (m ≤ j) × (j ≤ length w) × IsSkipWord g k (slice_range w m j)
ItemOver g w has (Non n s) m j = IsFinished g has n m j

-- the alternative of nonterminal n over the stretch, by rule q
pub record WholeBy (g : Grammar) (has : ℕ → Place → ℕ → Type 0) (f : Forest) (n i j q : ℕ) (a : Alt) : Type 0 where
  pub rule_is : a.rule ≡ q
  pub of : IsRuleOf g n q
  pub ended : has j (at_dot q (length (items g q))) i
  pub left_is : FrontAt f q (length (items g q)) i j a.left
  pub right_is : a.right ≡ None

-- the alternative of the first suc d items of rule p over the stretch, of which the last begins at m
pub record FrontBy (g : Grammar) (w : List ℕ) (has : ℕ → Place → ℕ → Type 0) (f : Forest) (p d i j m : ℕ) (item : GItem) (a : Alt) : Type 0 where
  pub rule_is : a.rule ≡ p
  pub item_is : ItemAt g p d item
  pub before : has m (at_dot p d) i
  pub last : ItemOver g w has item m j
  pub left_is : FrontAt f p d i m a.left
  pub right_is : ItemRow f item m j a.right

-- the alternative is one that the chart gives the label
abbrev pub IsAltBy : Grammar → List ℕ → (ℕ → Place → ℕ → Type 0) → Forest → What → ℕ → ℕ → Alt → Type 0
IsAltBy g w has f (Whole n) i j a = WholeBy g has f n i j a.rule a
IsAltBy g w has f (Front p zero) i j a = ⊥
IsAltBy g w has f (Front p (suc d)) i j a = (m : ℕ) × (item : GItem) × FrontBy g w has f p d i j m item a

-- the label is one that the chart has: a nonterminal of which a rule is finished, or some first items of a rule
abbrev pub IsLabelBy : Grammar → (ℕ → Place → ℕ → Type 0) → What → ℕ → ℕ → Type 0
IsLabelBy g has (Whole n) i j = IsFinished g has n i j
IsLabelBy g has (Front p d) i j = (zero < d) × has j (at_dot p d) i

-- The rows are of labels that the chart has, one row a label, children below, and each row has exactly the
-- alternatives that the chart gives, each once.
pub record IsGrown (g : Grammar) (w : List ℕ) (has : ℕ → Place → ℕ → Type 0) (f : Forest) : Type 0 where
  pub one_row : (r s : ℕ) → r < length f → s < length f → key_of f r ≡ key_of f s → r ≡ s
  pub below : (r c : ℕ) (a : Alt) → r < length f → Contains (alts_of f r) a → (a.left ≡ Some c) ⊎ (a.right ≡ Some c) → c < r
  pub labels : (r : ℕ) (x : What) (i j : ℕ) → IsRow f r x i j → IsLabelBy g has x i j
  pub sound : (r : ℕ) (x : What) (i j : ℕ) (a : Alt) → IsRow f r x i j → Contains (alts_of f r) a → IsAltBy g w has f x i j a
  pub wholes : (r n i j q : ℕ) → IsRow f r (Whole n) i j → IsRuleOf g n q → has j (at_dot q (length (items g q))) i → (a : Alt) × Contains (alts_of f r) a × WholeBy g has f n i j q a
  pub fronts : (r p d i j m : ℕ) (item : GItem) → IsRow f r (Front p (suc d)) i j → ItemAt g p d item → has m (at_dot p d) i → ItemOver g w has item m j → (a : Alt) × Contains (alts_of f r) a × FrontBy g w has f p d i j m item a
  pub once : (r k l : ℕ) (a : Alt) → r < length f → slice_get (alts_of f r) k ≡ Some a → slice_get (alts_of f r) l ≡ Some a → k ≡ l
