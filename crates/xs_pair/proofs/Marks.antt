-- The marks of an XML side, item by item.
use Rattle.std.proofs.Common.{◌≡◌, ◌∙◌, ◌<◌, ◌+◌, refl, sym, ap, List, [], ◌∷◌, ◌++◌, ℕ, map, take, drop, insert, length, get_or, encode_utf8_all, append_assoc}
use Rattle.std.specs.Borrow.{Bor}
use Rattle.std.proofs.lemmas.List.{map-append, take-map, drop-map}
use Rattle.std.specs.List.{flat_map}
use Rattle.xs_sheet.specs.declared.item.Item.{Item}
use Rattle.xs_sheet.specs.declared.x_item.Attr.{Attr}
use Rattle.xs_sheet.specs.declared.x_item.XItem.{XItem, Plain, Element}
use Rattle.xs_sheet.specs.declared.x_item.XItem.TheVariants.{rolls-Plain, rolls-Element}
use Rattle.xs_sheet.specs.declared.x_item.XItem.TheOpen as O
use Rattle.xs_sheet.specs.declared.x_item.XItem.TheFolds.{fold-roll-XItem}
use Rattle.xs_gram.proofs.Building.{drop_next}
use Rattle.xs_pair.specs.declared.mark.Mark.{Mark}
use Rattle.xs_pair.specs.declared.mark.Mark.TheVariants.{Closing, Content}
use Rattle.xs_pair.specs.Marks.{place_before, placed, marks_of, all_marks, item_marks, joined, element_marks, opening_marks}

joined_map : (f : XItem → List Mark) (items : List XItem) → joined (map f items) ≡ flat_map f items
joined_map f [] = refl
joined_map f (x ∷ items) = ap (λ l. f x ++ l) (joined_map f items)

pub marks_plain : (i : Item) → marks_of (Plain i) ≡ Content i ∷ []
unfolding marks_of
marks_plain i = ap (λ (x : XItem). marks_of x) (sym (rolls-Plain i)) ∙ fold-roll-XItem (List Mark) item_marks (O.Plain i)

pub marks_element : (tag : List ℕ) (attrs : List Attr) (content : List XItem) → marks_of (Element tag attrs content) ≡ opening_marks tag attrs ++ (all_marks content ++ Closing tag ∷ [])
unfolding marks_of
marks_element tag attrs content =
    ap (λ (x : XItem). marks_of x) (sym (rolls-Element tag attrs content)) ∙ fold-roll-XItem (List Mark) item_marks (O.Element tag attrs content) ∙ ap (λ (z : List Mark). element_marks tag attrs z) (joined_map marks_of content)

-- one more attribute is put in its place among those that the code has by reference
map_insert : {A B : Type 0} (f : A → B) (xs : List A) (k : ℕ) (x : A) → map f (insert xs k x) ≡ insert (map f xs) k (f x)
map_insert f xs k x = map-append f (take k xs) (x ∷ drop k xs) ∙ ap (λ l. l ++ f x ∷ map f (drop k xs)) (sym (take-map f k xs)) ∙ ap (λ l. take k (map f xs) ++ f x ∷ l) (sym (drop-map f k xs))

pub placed_next : (sorted new : List (Bor Attr)) (attrs whole : List Attr) (i place : ℕ) (a : Bor Attr) → i < length attrs → a.now ≡ get_or attrs i a.now → place ≡ place_before (encode_utf8_all a.now.name) (map (λ (b : Bor Attr). b.now) sorted) → new ≡ insert sorted place a → placed (map (λ (b : Bor Attr). b.now) sorted) (drop i attrs) ≡ whole → placed (map (λ (b : Bor Attr). b.now) new) (drop (i + 1) attrs) ≡ whole
placed_next sorted new attrs whole i place a lt at place_is new_is before =
    let shown : map (λ (b : Bor Attr). b.now) new ≡ insert (map (λ (b : Bor Attr). b.now) sorted) (place_before (encode_utf8_all a.now.name) (map (λ (b : Bor Attr). b.now) sorted)) a.now =
    ap (map (λ (b : Bor Attr). b.now)) new_is ∙ map_insert (λ (b : Bor Attr). b.now) sorted place a ∙ ap (λ k. insert (map (λ (b : Bor Attr). b.now) sorted) k a.now) place_is in
    ap (λ (l : List Attr). placed l (drop (i + 1) attrs)) shown ∙ ap (λ (l : List Attr). placed (map (λ (b : Bor Attr). b.now) sorted) l) (sym (drop_next attrs i a.now lt at)) ∙ before

-- the opening, the content, the closing
pub closes : (out a b c start kids : List Mark) (last : Mark) → a ≡ out ++ start → b ≡ a ++ kids → c ≡ b ++ last ∷ [] → c ≡ out ++ (start ++ (kids ++ last ∷ []))
closes out a b c start kids last first next end = rw (end, next, first) (simp append_assoc)
