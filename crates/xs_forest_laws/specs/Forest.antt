-- A shared forest, its unfoldings, what they read as, and when it is right for a grammar and a document.
use Rattle.std.specs.Prelude.{◌≡◌, ℕ, zero, suc, ◌<◌, ◌≤◌, List, [], ◌∷◌, length, take, None, Some, ◌⊎◌, slice_get, slice_index_or, slice_range, Contains}
use Rattle.std.specs.declared.option.Option.{Option}
use Rattle.xs_gram.specs.declared.parts.GItem.{GItem}
use Rattle.xs_gram.specs.declared.parts.GItem.TheVariants.{Fixed, Term, Non, Skip}
use Rattle.xs_gram.specs.Grammar.{Grammar, items, IsRuleOf, ItemAt}
use Rattle.xs_gram.specs.Derivations.{Parts, done, fixed, leaf, skip, sub, FitsItems, parts_yield}
use Rattle.xs_chart_laws.specs.Reading.{Reads}
use Rattle.xs_chart_laws.specs.Parts.{parts_then}
use Rattle.xs_forest.specs.declared.row.Alt.{Alt}
use Rattle.xs_forest.specs.Rows.{Rows}
use Rattle.xs_forest_laws.specs.declared.span.SpanKey.{SpanKey}
use Rattle.xs_forest_laws.specs.declared.span.What.{What}
use Rattle.xs_forest_laws.specs.declared.span.What.TheVariants.{Whole, Front}

-- each row is its label with its alternatives
abbrev pub Forest : Type 0
Forest = Rows SpanKey

-- the label of what lies over the stretch from place i up to place j
abbrev pub key_at : What → ℕ → ℕ → SpanKey
key_at x i j = record { what = x; start = i; end = j }

-- what stands for a row that is not there
abbrev pub no_row : SpanKey × List Alt
no_row = (key_at (Whole zero) zero zero, [])

abbrev pub key_of : Forest → ℕ → SpanKey
key_of f r = (slice_index_or f r no_row).0

abbrev pub alts_of : Forest → ℕ → List Alt
alts_of f r = (slice_index_or f r no_row).1

-- row r has the label
abbrev pub IsRow : Forest → ℕ → What → ℕ → ℕ → Type 0
IsRow f r x i j = (r < length f) × (key_of f r ≡ key_at x i j)

-- An unfolding: an alternative, an unfolding of its left child and one of its right child, `bare` for a
-- child that is not there.
pub data Unfolding : Type 0 where
  bare : Unfolding
  pick : Alt → Unfolding → Unfolding → Unfolding

-- the unfolding is one of the row, or of no row
abbrev pub Unfolds : Forest → Option ℕ → Unfolding → Type 0
Unfolds f None bare = Unit {0}
Unfolds f None (pick a l r) = ⊥
Unfolds f (Some n) bare = ⊥
Unfolds f (Some n) (pick a l r) = (n < length f) × Contains (alts_of f n) a × Unfolds f a.left l × Unfolds f a.right r

-- the part of an item that is no nonterminal
abbrev pub word_part : GItem → List ℕ → Parts
word_part (Fixed v) u = fixed u done
word_part (Term t s) u = leaf u done
word_part (Skip k) u = skip u done
word_part (Non n s) u = done

-- item d of rule p
abbrev pub item_of : Grammar → ℕ → ℕ → GItem
item_of g p d = slice_index_or (items g p) d (Skip zero)

-- where the left child ends, and place i where there is none
abbrev pub end_of : Forest → ℕ → Option ℕ → ℕ
end_of f i None = i
end_of f i (Some n) = (key_of f n).end

-- the part of a front's last item: the right child's parts, and the word u where there is no right child
abbrev pub last_part : GItem → List ℕ → Option ℕ → Parts → Parts
last_part item u None ps = word_part item u
last_part item u (Some n) ps = ps

-- What an alternative reads as, by what its children read as: a nonterminal reads as one part, first items
-- as a part for each. An item that is no nonterminal has the stretch of the document from the end of the
-- left child, or from the row's start where there is none, to the row's end.
abbrev pub read_alt : Grammar → List ℕ → Forest → What → SpanKey → Alt → Parts → Parts → Parts
read_alt g w f (Whole n) k a ls rs = sub a.rule ls done
read_alt g w f (Front p zero) k a ls rs = done
read_alt g w f (Front p (suc d)) k a ls rs = parts_then ls (last_part (item_of g p d) (slice_range w (end_of f k.start a.left) k.end) a.right rs)

-- what an unfolding of a row reads as
abbrev pub read : Grammar → List ℕ → Forest → Option ℕ → Unfolding → Parts
read g w f None u = done
read g w f (Some n) bare = done
read g w f (Some n) (pick a l r) = read_alt g w f (key_of f n).what (key_of f n) a (read g w f a.left l) (read g w f a.right r)

-- the items that a row's parts are for
abbrev pub items_of : Grammar → What → List GItem
items_of g (Whole n) = Non n zero ∷ []
items_of g (Front p d) = take d (items g p)

-- the parts are for the items and spell the stretch
abbrev pub Spans : Grammar → List ℕ → List GItem → ℕ → ℕ → Parts → Type 0
Spans g w is i j ps = FitsItems g is ps × Reads w i (parts_yield ps) j

-- some parts are for the items and spell the stretch
abbrev pub IsSpelt : Grammar → List ℕ → List GItem → ℕ → ℕ → Type 0
IsSpelt g w is i j = (ps : Parts) × Spans g w is i j ps

-- o is the row of the first d items of rule p over the stretch, and no row where d is 0
abbrev pub FrontAt : Forest → ℕ → ℕ → ℕ → ℕ → Option ℕ → Type 0
FrontAt f p zero i j o = (o ≡ None) × (i ≡ j)
FrontAt f p (suc d) i j o = (n : ℕ) × (o ≡ Some n) × IsRow f n (Front p (suc d)) i j

-- o is the row of the item over the stretch where it is a nonterminal, and else no row
abbrev pub ItemRow : Forest → GItem → ℕ → ℕ → Option ℕ → Type 0
ItemRow f (Fixed v) i j o = o ≡ None
ItemRow f (Term t s) i j o = o ≡ None
ItemRow f (Skip k) i j o = o ≡ None
ItemRow f (Non m s) i j o = (n : ℕ) × (o ≡ Some n) × IsRow f n (Whole m) i j

-- the alternative of nonterminal n over the stretch, by rule q: its left child is the rule's last front
pub record WholeAlt (g : Grammar) (w : List ℕ) (f : Forest) (n i j q : ℕ) (a : Alt) : Type 0 where
  pub rule_is : a.rule ≡ q
  pub of : IsRuleOf g n q
  pub spelt : IsSpelt g w (items g q) i j
  pub left_is : FrontAt f q (length (items g q)) i j a.left
  pub right_is : a.right ≡ None

-- the alternative of the first suc d items of rule p over the stretch, of which the last begins at m: its
-- left child is the front before that item, and its right child the item's row
pub record FrontAlt (g : Grammar) (w : List ℕ) (f : Forest) (p d i j m : ℕ) (item : GItem) (a : Alt) : Type 0 where
  pub rule_is : a.rule ≡ p
  pub item_is : ItemAt g p d item
  pub before : IsSpelt g w (take d (items g p)) i m
  pub last : IsSpelt g w (item ∷ []) m j
  pub left_is : FrontAt f p d i m a.left
  pub right_is : ItemRow f item m j a.right

-- the alternative is one of the label's
abbrev pub IsAlt : Grammar → List ℕ → Forest → What → ℕ → ℕ → Alt → Type 0
IsAlt g w f (Whole n) i j a = WholeAlt g w f n i j a.rule a
IsAlt g w f (Front p zero) i j a = ⊥
IsAlt g w f (Front p (suc d)) i j a = (m : ℕ) × (item : GItem) × FrontAlt g w f p d i j m item a

-- The forest is right for the grammar and the document: one row a label, children below, and each row has
-- exactly the alternatives of its label, each once: one for each rule that derives its stretch, or one for
-- each place where the last item may begin.
pub record IsRight (g : Grammar) (w : List ℕ) (f : Forest) : Type 0 where
  pub one_row : (r s : ℕ) → r < length f → s < length f → key_of f r ≡ key_of f s → r ≡ s
  pub below : (r c : ℕ) (a : Alt) → r < length f → Contains (alts_of f r) a → (a.left ≡ Some c) ⊎ (a.right ≡ Some c) → c < r
  pub dotted : (r p d i j : ℕ) → IsRow f r (Front p d) i j → (zero < d) × (d ≤ length (items g p))
  pub sound : (r : ℕ) (x : What) (i j : ℕ) (a : Alt) → IsRow f r x i j → Contains (alts_of f r) a → IsAlt g w f x i j a
  pub wholes : (r n i j q : ℕ) → IsRow f r (Whole n) i j → IsRuleOf g n q → IsSpelt g w (items g q) i j → (a : Alt) × Contains (alts_of f r) a × WholeAlt g w f n i j q a
  pub fronts : (r p d i j m : ℕ) (item : GItem) → IsRow f r (Front p (suc d)) i j → ItemAt g p d item → IsSpelt g w (take d (items g p)) i m → IsSpelt g w (item ∷ []) m j → (a : Alt) × Contains (alts_of f r) a × FrontAlt g w f p d i j m item a
  pub once : (r k l : ℕ) (a : Alt) → r < length f → slice_get (alts_of f r) k ≡ Some a → slice_get (alts_of f r) l ≡ Some a → k ≡ l
