-- The common trees of rows by the first alternative of each row, made row by row.
use Rattle.std.specs.Prelude.{◌≡◌, ℕ, ◌<◌, ◌≤◌, List, [], ◌∷◌, ◌++◌, length, Bool, None, Some, slice_index, slice_set, slice_range}
use Rattle.std.specs.declared.option.Option.{Option}
use Rattle.xs_gram.specs.declared.parts.GItem.{GItem}
use Rattle.xs_gram.specs.declared.parts.GItem.TheVariants.{Fixed, Term, Non, Skip}
use Rattle.xs_gram.specs.Grammar.{Grammar, items}
use Rattle.xs_gram.specs.Derivations.{Parts, done, sub}
use Rattle.xs_gram.specs.Common.{Common, strip, lookup}
use Rattle.xs_forest.specs.declared.row.Alt.{Alt}
use Rattle.xs_tree.specs.Flat.{TreePart, Leaf, tree_at, trees_of}
use Rattle.xs_forest_laws.specs.declared.span.What.TheVariants.{Whole}
use Rattle.xs_forest_laws.specs.Forest.{Forest, key_of, Unfolding, bare, pick, read, end_of, FrontAt}
use Rattle.xs_forest_laws.specs.First.{IsFirst}
use Rattle.xs_listing.specs.declared.rows.FirstAlternative.{FirstAlternative}
use Rattle.xs_listing.specs.Marks.{IsFirstAlt, IsMarked}

-- the step is the row's first alternative, with the stretch of the row's last item
pub record IsFirstAlternative (f : Forest) (r : ℕ) (step : FirstAlternative) : Type 0 where
  pub alt : Alt
  pub first : IsFirstAlt f r alt
  pub left_is : step.left ≡ alt.left
  pub right_is : step.right ≡ alt.right
  pub start_is : step.start ≡ end_of f (key_of f r).start alt.left
  pub end_is : step.end ≡ (key_of f r).end

-- the parts are the one of a nonterminal, and the tree is that of its derivation
pub record IsTreeOf (g : Grammar) (ps : Parts) (t : Common) : Type 0 where
  pub rule : ℕ
  pub parts : Parts
  pub parts_are : ps ≡ sub rule parts done
  pub tree_is : t ≡ strip g (record { rule = rule; parts = parts })

-- part v of the list has the tree of row r's unfolding by first alternatives
pub record IsMade (g : Grammar) (w : List ℕ) (f : Forest) (parts : List TreePart) (r v : ℕ) : Type 0 where
  pub there : v < length parts
  pub tree : (u : Unfolding) → IsFirst f (Some r) u → IsTreeOf g (read g w f (Some r) u) (tree_at (trees_of parts) v)

-- the row is one of a nonterminal
abbrev pub IsWhole : Forest → ℕ → Type 0
IsWhole f r = (n : ℕ) × ((key_of f r).what ≡ Whole n)

-- each marked row of a nonterminal that has a number is made by the part of this number
abbrev pub AreMade : Grammar → List ℕ → Forest → List Bool → List TreePart → List ℕ → Type 0
AreMade g w f marks parts numbers = (r : ℕ) → r < length numbers → IsMarked marks r → IsWhole f r → IsMade g w f parts r (slice_index numbers r)

-- a right child, if there is one, is made by the part of its number
abbrev pub IsMadeChild : Grammar → List ℕ → Forest → List TreePart → List ℕ → Option ℕ → Type 0
IsMadeChild g w f parts numbers None = Unit {0}
IsMadeChild g w f parts numbers (Some c) = (c < length numbers) × IsMade g w f parts c (slice_index numbers c)

-- all right children along the left children are made
abbrev pub IsPrepared : Grammar → List ℕ → Forest → List TreePart → List ℕ → Unfolding → Type 0
IsPrepared g w f parts numbers bare = Unit {0}
IsPrepared g w f parts numbers (pick a l t) = IsMadeChild g w f parts numbers a.right × IsPrepared g w f parts numbers l

-- the row is one of a nonterminal, begins within the document, and what its node needs is made
pub record CanMake (g : Grammar) (w : List ℕ) (f : Forest) (parts : List TreePart) (numbers : List ℕ) (r : ℕ) : Type 0 where
  pub whole : IsWhole f r
  pub inside : (key_of f r).start ≤ length w
  pub chosen : Unfolding
  pub first : IsFirst f (Some r) chosen
  pub prepared : IsPrepared g w f parts numbers chosen

-- what the kids of a node of the rule need is made, down from the front of all the rule's items
pub record CanGather (g : Grammar) (w : List ℕ) (f : Forest) (parts : List TreePart) (numbers : List ℕ) (q : ℕ) (o : Option ℕ) : Type 0 where
  pub start : ℕ
  pub end : ℕ
  pub inside : start ≤ length w
  pub front : FrontAt f q (length (items g q)) start end o
  pub chosen : Unfolding
  pub first : IsFirst f o chosen
  pub prepared : IsPrepared g w f parts numbers chosen

-- the list goes on
abbrev pub Extends : List TreePart → List TreePart → Type 0
Extends old new = (more : List TreePart) × (new ≡ old ++ more)

-- the kids at the slots of the entries are parts with the trees of the entries
abbrev pub Fills : List TreePart → List ℕ → List (ℕ × Common) → Type 0
Fills parts kids es = (s : ℕ) (t : Common) → lookup s es ≡ Some t → (s < length kids) × (slice_index kids s < length parts) × (tree_at (trees_of parts) (slice_index kids s) ≡ t)

-- the slot of an item is there, and so is the stretch of a terminal's word and the number of a nonterminal's row
abbrev pub CanPlace : List ℕ → List ℕ → ℕ → GItem → FirstAlternative → Type 0
CanPlace w numbers count (Fixed v) step = Unit {0}
CanPlace w numbers count (Skip k) step = Unit {0}
CanPlace w numbers count (Term t s) step = (s < count) × (step.start ≤ step.end) × (step.end ≤ length w)
CanPlace w numbers count (Non n s) step = (s < count) × (c : ℕ) × (step.right ≡ Some c) × (c < length numbers)

-- the parts and the kids after an item is placed: a leaf for a terminal's word, and the part of its row for a
-- nonterminal, at the item's slot
abbrev pub IsPlaced : List ℕ → List ℕ → GItem → FirstAlternative → List TreePart → List ℕ → List TreePart → List ℕ → Type 0
IsPlaced w numbers (Fixed v) step parts kids parts' kids' = (parts' ≡ parts) × (kids' ≡ kids)
IsPlaced w numbers (Skip k) step parts kids parts' kids' = (parts' ≡ parts) × (kids' ≡ kids)
IsPlaced w numbers (Term t s) step parts kids parts' kids' = (parts' ≡ parts ++ Leaf (slice_range w step.start step.end) ∷ []) × (kids' ≡ slice_set kids s (length parts))
IsPlaced w numbers (Non n s) step parts kids parts' kids' = (c : ℕ) × (step.right ≡ Some c) × (parts' ≡ parts) × (kids' ≡ slice_set kids s (slice_index numbers c))
