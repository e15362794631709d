-- The symbols of a grammar's fixed words, each as a range.
use Rattle.std.specs.Prelude.{ℕ, List, [], ◌∷◌, ◌++◌, Contains}
use Rattle.xs_gram.specs.declared.parts.GItem.{GItem}
use Rattle.xs_gram.specs.declared.parts.GItem.TheVariants.{Fixed, Term, Non, Skip}
use Rattle.xs_gram.specs.declared.parts.RulePart.{RulePart}
use Rattle.xs_gram.specs.Grammar.{Grammar, ItemAt}

-- the symbol is in a fixed word of the grammar
pub record IsFixed (g : Grammar) (x : ℕ) : Type 0 where
  pub rule : ℕ
  pub dot : ℕ
  pub word : List ℕ
  pub item : ItemAt g rule dot (Fixed word)
  pub among : Contains word x

abbrev pub word_ranges : List ℕ → List (ℕ × ℕ)
word_ranges [] = []
word_ranges (s ∷ w) = (s, s) ∷ word_ranges w

abbrev pub items_ranges : List GItem → List (ℕ × ℕ)
items_ranges [] = []
items_ranges (Fixed f ∷ is) = word_ranges f ++ items_ranges is
items_ranges (Term t s ∷ is) = items_ranges is
items_ranges (Non n s ∷ is) = items_ranges is
items_ranges (Skip k ∷ is) = items_ranges is

abbrev pub rules_ranges : List RulePart → List (ℕ × ℕ)
rules_ranges [] = []
rules_ranges (r ∷ rs) = items_ranges r.items ++ rules_ranges rs
