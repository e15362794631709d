-- The marks of an XML side: items, and elements that stand in each other.
use Rattle.std.proofs.Common.{◌≡◌, ◌⊎◌, ℕ, List, [], ◌∷◌, ◌++◌, map, true, false, sym, subst, inl, inr, append_assoc, append-nil}
use Rattle.xs_sheet.specs.declared.item.Item.{Item}
use Rattle.xs_sheet.specs.declared.x_item.Attr.{Attr}
use Rattle.xs_sheet.specs.declared.x_item.XItem.{XItem, Plain, Element, map-XItem, roll-XItem}
use Rattle.xs_sheet.specs.declared.x_item.XItem.TheVariants.{rolls-Plain, rolls-Element}
use Rattle.xs_sheet.specs.declared.x_item.XItem.TheOpen as O
use Rattle.xs_sheet.specs.declared.x_item.XItem.TheOpen.{XItem-F}
use Rattle.xs_sheet.specs.declared.x_item.XItem.TheFolds.{ind-XItem}
use Rattle.xs_gram.specs.Building.{EachOf}
use Rattle.xs_pair.specs.declared.mark.Mark.{Mark}
use Rattle.xs_pair.specs.declared.mark.Mark.TheVariants.{Closing, Content}
use Rattle.xs_pair.specs.Marks.{marks_of, all_marks, opening_marks, opens, is_element}
use Rattle.xs_pair.proofs.Marks.{marks_plain, marks_element}

each_pair : (P : XItem → Type 0) (l : List ((x : XItem) × P x)) → EachOf P (map (λ (e : (x : XItem) × P x). e.0) l)
each_pair P [] = tt
each_pair P (e ∷ l) = (e.1, each_pair P l)

by_item : (P : XItem → Type 0) → ((i : Item) → P (Plain i)) → ((tag : List ℕ) (attrs : List Attr) (content : List XItem) → EachOf P content → P (Element tag attrs content)) → (x : XItem-F XItem) (y : XItem-F ((x : XItem) × P x)) → map-XItem ((x : XItem) × P x) XItem (λ e. e.0) y ≡ x → P (roll-XItem x)
by_item P plain element x (O.Plain i) e = subst (λ (z : XItem-F XItem). P (roll-XItem z)) e (subst P (sym (rolls-Plain i)) (plain i))
by_item P plain element x (O.Element tag attrs pairs) e =
    let content = map (λ (e : (x : XItem) × P x). e.0) pairs in
    subst (λ (z : XItem-F XItem). P (roll-XItem z)) e (subst P (sym (rolls-Element tag attrs content)) (element tag attrs content (each_pair P pairs)))

-- what holds of a plain item, and of an element if it holds of each item inside, holds of each item
pub item_induction : (P : XItem → Type 0) → ((i : Item) → P (Plain i)) → ((tag : List ℕ) (attrs : List Attr) (content : List XItem) → EachOf P content → P (Element tag attrs content)) → (x : XItem) → P x
item_induction P plain element = ind-XItem P (by_item P plain element)

-- items and elements, one after the other, and inside elements too
pub data IsNested : List Mark → Type 0 where
  none : IsNested []
  plain : (i : Item) (rest : List Mark) → IsNested rest → IsNested (Content i ∷ rest)
  element : (tag : List ℕ) (attrs : List Attr) (inner rest whole : List Mark) → IsNested inner → IsNested rest → whole ≡ opening_marks tag attrs ++ (inner ++ Closing tag ∷ rest) → IsNested whole

-- exactly one element
pub record IsElement (marks : List Mark) : Type 0 where
  pub tag : List ℕ
  pub attrs : List Attr
  pub inner : List Mark
  pub nested : IsNested inner
  pub is : marks ≡ opening_marks tag attrs ++ (inner ++ Closing tag ∷ [])

abbrev IsOne : XItem → Type 0
IsOne x = ((i : Item) × (marks_of x ≡ Content i ∷ [])) ⊎ IsElement (marks_of x)

with_rest : (start inner rest whole : List Mark) (end : Mark) → whole ≡ start ++ (inner ++ end ∷ []) → whole ++ rest ≡ start ++ (inner ++ end ∷ rest)
with_rest start inner rest whole end e = rw e (simp append_assoc)

one_nested : (x : XItem) (rest : List Mark) → IsOne x → IsNested rest → IsNested (marks_of x ++ rest)
one_nested x rest (inl is) more = subst (λ (ms : List Mark). IsNested (ms ++ rest)) (sym is.1) (plain is.0 rest more)
one_nested x rest (inr e) more = element e.tag e.attrs e.inner rest (marks_of x ++ rest) e.nested more (with_rest (opening_marks e.tag e.attrs) e.inner rest (marks_of x) (Closing e.tag) e.is)

ones_nested : (xs : List XItem) → EachOf IsOne xs → IsNested (all_marks xs)
ones_nested [] each = none
ones_nested (x ∷ xs) each = one_nested x (all_marks xs) each.0 (ones_nested xs each.1)

one : (x : XItem) → IsOne x
one = item_induction IsOne (λ i. inl (i, marks_plain i)) (λ tag attrs content each. inr (record { tag = tag; attrs = attrs; inner = all_marks content; nested = ones_nested content each; is = marks_element tag attrs content }))

ones : (xs : List XItem) → EachOf IsOne xs
ones [] = tt
ones (x ∷ xs) = (one x, ones xs)

pub all_nested : (xs : List XItem) → IsNested (all_marks xs)
all_nested xs = ones_nested xs (ones xs)

opened : (x : XItem) → IsOne x → opens (marks_of x) ≡ true → IsElement (marks_of x)
opened x (inl is) opens_it = let no : false ≡ true = subst (λ (ms : List Mark). opens ms ≡ true) is.1 opens_it in absurd (cc)
opened x (inr e) opens_it = e

pub root_element : (xs : List XItem) → is_element xs ≡ true → IsElement (all_marks xs)
root_element [] is = absurd (cc)
root_element (x ∷ []) is = subst IsElement (sym (append-nil (marks_of x))) (opened x (one x) is)
root_element (x ∷ y ∷ xs) is = absurd (cc)
