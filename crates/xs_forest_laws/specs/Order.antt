-- The order of labels in which children come first.
use Rattle.std.specs.Prelude.{◌≡◌, ◌⊎◌, ◌↔◌, ℕ, suc, ◌<◌, ◌≤◌, ◌-◌, List, [], ◌∷◌, length, Bool, true, false, cond}
use Rattle.xs_gram.specs.declared.parts.GItem.{GItem}
use Rattle.xs_gram.specs.declared.parts.GItem.TheVariants.{Fixed, Term, Non, Skip}
use Rattle.xs_gram.specs.Grammar.{Grammar, rule_of, term_of, skip_of, items, ItemAt}
use Rattle.xs_gram.specs.Sound.{IsNullable, IsNullableItem, LeadsTo}
use Rattle.xs_forest_laws.specs.declared.span.SpanKey.{SpanKey}
use Rattle.xs_forest_laws.specs.declared.span.What.{What}
use Rattle.xs_forest_laws.specs.declared.span.What.TheVariants.{Whole, Front}

-- ranks go down from each nonterminal to those that it leads to
abbrev pub IsRanked : Grammar → (ℕ → ℕ) → Type 0
IsRanked g rank = (n m : ℕ) → LeadsTo g n m → rank m < rank n

-- the items of rule p from item d on are all nullable
abbrev pub IsNullableFrom : Grammar → ℕ → ℕ → Type 0
IsNullableFrom g p d = (k : ℕ) (item : GItem) → d ≤ k → ItemAt g p k item → IsNullableItem g item

-- whether an item is nullable, by the flags of the nonterminals
abbrev pub is_nullable_by : Grammar → (ℕ → Bool) → GItem → Bool
is_nullable_by g flag (Fixed f) = false
is_nullable_by g flag (Term t s) = (term_of g t).automaton.nullable
is_nullable_by g flag (Skip k) = (skip_of g k).automaton.nullable
is_nullable_by g flag (Non n s) = flag n

-- the flags of the nonterminals are true of exactly the nullable ones
abbrev pub AreNullable : Grammar → (ℕ → Bool) → Type 0
AreNullable g flag = (n : ℕ) → n < g.nons → (flag n ≡ true) ↔ IsNullable g n

-- k is the first place of rule p from which all items are nullable
pub record IsTailFrom (g : Grammar) (p k : ℕ) : Type 0 where
  pub within : k ≤ length (items g p)
  pub after : IsNullableFrom g p k
  pub first : (m : ℕ) → suc m ≡ k → IsNullableFrom g p m → ⊥

-- the test says of each place of each rule whether the items from there on are all nullable
abbrev pub IsTail : Grammar → (ℕ → ℕ → Bool) → Type 0
IsTail g tail = (p d : ℕ) → p < length g.rules → d ≤ length (items g p) → (tail p d ≡ true) ↔ IsNullableFrom g p d

-- The place of a label in the order: by the length of its stretch; then the nonterminals, and the fronts
-- whose rule has only nullable items after them, by rank, a nonterminal's fronts before it; then the other
-- fronts; fronts by their number of items.
abbrev pub level : Grammar → (ℕ → ℕ) → (ℕ → ℕ → Bool) → What → ℕ → ℕ → List ℕ
level g rank tail (Whole n) i j = (j - i) ∷ 0 ∷ rank n ∷ 1 ∷ 0 ∷ []
level g rank tail (Front p d) i j = cond (tail p d) ((j - i) ∷ 0 ∷ rank (rule_of g p).non ∷ 0 ∷ d ∷ []) ((j - i) ∷ 1 ∷ 0 ∷ 0 ∷ d ∷ [])

abbrev pub level_of : Grammar → (ℕ → ℕ) → (ℕ → ℕ → Bool) → SpanKey → List ℕ
level_of g rank tail k = level g rank tail k.what k.start k.end

-- the first number that differs is less
abbrev pub IsLess : List ℕ → List ℕ → Type 0
IsLess (x ∷ xs) (y ∷ ys) = (x < y) ⊎ ((x ≡ y) × IsLess xs ys)
IsLess _ _ = ⊥
