-- The marks of an XML side are those of its content, whichever items it has.
use Rattle.std.proofs.Common.{◌≡◌, ◌∙◌, ℕ, Bool, false, List, [], ◌∷◌, ◌++◌, map, refl, sym, ap, append_assoc, append-nil}
use Rattle.xs_sheet.specs.declared.item.Item.{Item}
use Rattle.xs_sheet.specs.declared.x_item.Attr.{Attr}
use Rattle.xs_sheet.specs.declared.x_item.XItem.{XItem, Plain, Element}
use Rattle.xs_sheet.specs.Outline.{Content, nothing, item, element, laid, with_item, content_of}
use Rattle.xs_sheet.specs.Layout.{holds_nothing}
use Rattle.xs_sheet.proofs.ContentLaws.{with_plain, with_element}
use Rattle.xs_gram.specs.Building.{EachOf}
use Rattle.xs_pair.specs.declared.mark.Mark.{Mark}
use Rattle.xs_pair.specs.declared.mark.Mark.TheVariants.{Closing, Content as ContentMark}
use Rattle.xs_pair.specs.Marks.{marks_of, all_marks, opening_marks, opens, is_element}
use Rattle.xs_pair.specs.Listing.{rule_of}
use Rattle.xs_pair.proofs.Marks.{marks_plain, marks_element}
use Rattle.xs_pair.proofs.Nested.{item_induction}

abbrev element_in : List Mark → List ℕ → List Attr → List Mark → List Mark
element_in before tag attrs inner = before ++ (opening_marks tag attrs ++ (inner ++ Closing tag ∷ []))

abbrev pub marks_in : Content → List Mark
marks_in nothing = []
marks_in (item before i) = marks_in before ++ ContentMark i ∷ []
marks_in (element before tag attrs inner) = element_in (marks_in before) tag attrs (marks_in inner)

-- exactly one element
abbrev pub is_one : Content → Bool
is_one nothing = false
is_one (item before i) = false
is_one (element before tag attrs inner) = holds_nothing before

-- what an item adds to content
record Adds (x : XItem) : Type 0 where
  marks : (before : Content) → marks_in (with_item x before) ≡ marks_in before ++ marks_of x
  one : opens (marks_of x) ≡ is_one (with_item x nothing)
  holds : (before : Content) → holds_nothing (with_item x before) ≡ false
  more : (before : Content) → holds_nothing before ≡ false → is_one (with_item x before) ≡ false

all_add : (xs : List XItem) → EachOf Adds xs → (before : Content) → marks_in (laid before (map with_item xs)) ≡ marks_in before ++ all_marks xs
all_add [] each before = sym (append-nil (marks_in before))
all_add (x ∷ xs) each before =
    all_add xs each.1 (with_item x before) ∙ ap (λ ms. ms ++ all_marks xs) (each.0.marks before) ∙ append_assoc (marks_in before) (marks_of x) (all_marks xs)

plain_adds : (i : Item) → Adds (Plain i)
plain_adds i = record {
  marks = λ before. ap marks_in (with_plain i before) ∙ ap (λ ms. marks_in before ++ ms) (sym (marks_plain i));
  one = ap opens (marks_plain i) ∙ sym (ap is_one (with_plain i nothing));
  holds = λ before. ap holds_nothing (with_plain i before);
  more = λ before some. ap is_one (with_plain i before);
}

element_adds : (tag : List ℕ) (attrs : List Attr) (content : List XItem) → EachOf Adds content → Adds (Element tag attrs content)
element_adds tag attrs content each = record {
  marks = λ before.
      ap marks_in (with_element tag attrs content before) ∙ ap (λ ms. element_in (marks_in before) tag attrs ms) (all_add content each nothing) ∙ ap (λ ms. marks_in before ++ ms) (sym (marks_element tag attrs content));
  one = ap opens (marks_element tag attrs content) ∙ sym (ap is_one (with_element tag attrs content nothing));
  holds = λ before. ap holds_nothing (with_element tag attrs content before);
  more = λ before some. ap is_one (with_element tag attrs content before) ∙ some;
}

adds : (x : XItem) → Adds x
adds x = item_induction Adds plain_adds element_adds x

each_adds : (xs : List XItem) → EachOf Adds xs
each_adds [] = tt
each_adds (x ∷ xs) = (adds x, each_adds xs)

pub marks_are : (xs : List XItem) → all_marks xs ≡ marks_in (content_of xs)
marks_are xs = sym (all_add xs (each_adds xs) nothing)

none_more : (xs : List XItem) (before : Content) → holds_nothing before ≡ false → is_one before ≡ false → is_one (laid before (map with_item xs)) ≡ false
none_more [] before holds other = other
none_more (x ∷ xs) before holds other = none_more xs (with_item x before) ((adds x).holds before) ((adds x).more before holds)

pub one_is : (xs : List XItem) → is_element xs ≡ is_one (content_of xs)
one_is [] = refl
one_is (x ∷ []) = (adds x).one
one_is (x ∷ y ∷ xs) = sym (none_more xs (with_item y (with_item x nothing)) ((adds y).holds (with_item x nothing)) ((adds y).more (with_item x nothing) ((adds x).holds nothing)))

-- productions with the same name, text side, content and line are laid out the same
pub rule_same : (name name' : List ℕ) (left left' : List Item) (right right' : List XItem) (line line' : ℕ) → name ≡ name' → left ≡ left' → content_of right ≡ content_of right' → line ≡ line' → rule_of name left right line ≡ rule_of name' left' right' line'
rule_same name name' left left' right right' line line' a b c d =
    let marks : all_marks right ≡ all_marks right' = marks_are right ∙ ap marks_in c ∙ sym (marks_are right') in
    let one : is_element right ≡ is_element right' = one_is right ∙ ap is_one c ∙ sym (one_is right') in
    rw (a, b, marks, one, d) refl
