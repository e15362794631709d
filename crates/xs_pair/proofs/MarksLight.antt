-- The marks of an XML side weigh what its content weighs.
use Rattle.std.proofs.Common.{◌≡◌, ◌<◌, ◌≤◌, ◌+◌, ap, sym, refl, subst, ℕ, suc, zero, List, [], ◌∷◌, ◌++◌, length, map, arith, encode_utf8_all}
use Rattle.std.specs.Prelude.{insert}
use Rattle.std.proofs.lemmas.List.{length-map}
use Rattle.xs_sheet.specs.declared.item.Item.{Item}
use Rattle.xs_sheet.specs.declared.x_item.Attr.{Attr}
use Rattle.xs_sheet.specs.declared.unit.Unit.{Unit}
use Rattle.xs_sheet.specs.declared.unit.Unit.TheVariants as V
use Rattle.xs_sheet.specs.declared.sheet.Sheet.{Sheet}
use Rattle.xs_sheet.specs.Grammar.{IsSheetOf}
use Rattle.xs_sheet.specs.declared.x_item.XItem.{XItem, Plain, Element, roll-XItem}
use Rattle.xs_sheet.specs.declared.x_item.XItem.TheVariants.{rolls-Plain, rolls-Element}
use Rattle.xs_sheet.specs.declared.x_item.XItem.TheOpen as O
use Rattle.xs_sheet.specs.declared.x_item.XItem.TheOpen.{XItem-F}
use Rattle.xs_sheet.specs.declared.x_item.XItem.TheFolds.{ind-XItem, map-XItem}
use Rattle.xs_sheet.specs.Outline.{Content, nothing, laid, with_item, unit_outline}
use Rattle.xs_sheet.proofs.ContentLaws.{with_plain, with_element}
use Rattle.xs_pair.specs.declared.mark.Mark.{Mark}
use Rattle.xs_pair.specs.declared.mark.Mark.TheVariants.{AttributeEnd, Closing, Value, Content as ContentMark}
use Rattle.xs_pair.specs.Marks.{marks_of, all_marks, attr_marks, attrs_marks, placed, place_before, opening_marks}
use Rattle.xs_pair.specs.Weights.{item_weight, marks_weight, weight}
use Rattle.xs_pair.proofs.Marks.{marks_plain, marks_element}
use Rattle.xs_pair.proofs.Light.{items_weight, attrs_weight, content_weight, units_weight, sheet_light}

pub weight-append : (xs ys : List Mark) → marks_weight (xs ++ ys) ≡ marks_weight xs + marks_weight ys
weight-append [] ys = omega arith
weight-append (x ∷ xs) ys = let rest = weight-append xs ys in omega arith

values_weight : (is : List Item) → marks_weight (map Value is) ≡ items_weight is
values_weight [] = refl
values_weight (i ∷ is) = ap (λ n. item_weight i + n) (values_weight is)

pub contents_weight : (is : List Item) → marks_weight (map ContentMark is) ≡ items_weight is
contents_weight [] = refl
contents_weight (i ∷ is) = ap (λ n. item_weight i + n) (contents_weight is)

-- what the attributes weigh in any order
all_attrs : List Attr → ℕ
all_attrs attrs = marks_weight (attrs_marks attrs)

attr_marks_weight : (a : Attr) → marks_weight (attr_marks a) ≡ items_weight a.value + 2
attr_marks_weight a = omega (arith, weight-append (map Value a.value) (AttributeEnd ∷ []), values_weight a.value)

attrs_cons : (a : Attr) (attrs : List Attr) → marks_weight (attrs_marks (a ∷ attrs)) ≡ items_weight a.value + 2 + marks_weight (attrs_marks attrs)
attrs_cons a attrs = omega (arith, weight-append (attr_marks a) (attrs_marks attrs), attr_marks_weight a)

attrs_weigh : (attrs : List Attr) → marks_weight (attrs_marks attrs) + length attrs ≡ attrs_weight attrs
attrs_weigh [] = refl
attrs_weigh (a ∷ attrs) = omega (arith, attrs_cons a attrs, attrs_weigh attrs)

insert_weight : (xs : List Attr) (i : ℕ) (a : Attr) → marks_weight (attrs_marks (insert xs i a)) ≡ items_weight a.value + 2 + marks_weight (attrs_marks xs)
insert_weight xs zero a = attrs_cons a xs
insert_weight [] (suc i) a = attrs_cons a []
insert_weight (x ∷ xs) (suc i) a = omega (arith, attrs_cons x (insert xs i a), attrs_cons x xs, insert_weight xs i a)

placed_weight : (sorted attrs : List Attr) → marks_weight (attrs_marks (placed sorted attrs)) ≡ marks_weight (attrs_marks sorted) + marks_weight (attrs_marks attrs)
placed_weight sorted [] = omega arith
placed_weight sorted (a ∷ attrs) =
    omega (arith, placed_weight (insert sorted (place_before (encode_utf8_all a.name) sorted) a) attrs, insert_weight sorted (place_before (encode_utf8_all a.name) sorted) a, attrs_cons a attrs)

opening_weight : (tag : List ℕ) (attrs : List Attr) → marks_weight (opening_marks tag attrs) ≡ attrs_weight attrs + 1
opening_weight tag attrs = omega (arith, length-map attrs (λ (a : Attr). a.name), placed_weight [] attrs, attrs_weigh attrs)

-- an item adds to content what its marks weigh
abbrev Weighs : XItem → Type 0
Weighs x = (before : Content) → content_weight (with_item x before) ≡ content_weight before + marks_weight (marks_of x)

abbrev AllWeigh : List XItem → Type 0
AllWeigh xs = (before : Content) → content_weight (laid before (map with_item xs)) ≡ content_weight before + marks_weight (all_marks xs)

plain_weighs : (i : Item) (before : Content) → content_weight (with_item (Plain i) before) ≡ content_weight before + marks_weight (marks_of (Plain i))
plain_weighs i before = omega (arith, ap content_weight (with_plain i before), ap marks_weight (marks_plain i))

element_weighs : (tag : List ℕ) (attrs : List Attr) (content : List XItem) → ((before : Content) → content_weight (laid before (map with_item content)) ≡ content_weight before + marks_weight (all_marks content)) → (before : Content) → content_weight (with_item (Element tag attrs content) before) ≡ content_weight before + marks_weight (marks_of (Element tag attrs content))
element_weighs tag attrs content inner before =
    omega (arith, ap content_weight (with_element tag attrs content before), ap marks_weight (marks_element tag attrs content), weight-append (opening_marks tag attrs) (all_marks content ++ Closing tag ∷ []), weight-append (all_marks content) (Closing tag ∷ []), opening_weight tag attrs, inner nothing)

next_weighs : (x : XItem) (xs : List XItem) → ((before : Content) → content_weight (with_item x before) ≡ content_weight before + marks_weight (marks_of x)) → ((before : Content) → content_weight (laid before (map with_item xs)) ≡ content_weight before + marks_weight (all_marks xs)) → (before : Content) → content_weight (laid before (map with_item (x ∷ xs))) ≡ content_weight before + marks_weight (all_marks (x ∷ xs))
next_weighs x xs one rest before = omega (arith, rest (with_item x before), one before, weight-append (marks_of x) (all_marks xs))

list_weighs : (xs : List ((x : XItem) × ((before : Content) → content_weight (with_item x before) ≡ content_weight before + marks_weight (marks_of x)))) → (before : Content) → content_weight (laid before (map with_item (map (λ e. e.0) xs))) ≡ content_weight before + marks_weight (all_marks (map (λ e. e.0) xs))
list_weighs [] before = omega arith
list_weighs (e ∷ xs) before = next_weighs e.0 (map (λ f. f.0) xs) e.1 (list_weighs xs) before

-- one item, where the content of an element weighs so
item_weighs : (y : XItem-F ((x : XItem) × Weighs x)) → Weighs (roll-XItem (map-XItem ((x : XItem) × Weighs x) XItem (λ e. e.0) y))
item_weighs (O.Plain i) = subst Weighs (sym (rolls-Plain i)) (plain_weighs i)
item_weighs (O.Element tag attrs es) =
    let content = map (λ (e : (x : XItem) × Weighs x). e.0) es in
    subst Weighs (sym (rolls-Element tag attrs content)) (element_weighs tag attrs content (list_weighs es))

weighs : (x : XItem) → Weighs x
weighs = ind-XItem Weighs (λ x y is. subst (λ z. Weighs (roll-XItem z)) is (item_weighs y))

all_weigh : (xs : List XItem) → AllWeigh xs
all_weigh [] before = omega arith
all_weigh (x ∷ xs) before = next_weighs x xs (weighs x) (all_weigh xs) before

units_same : (us : List Unit) → weight us ≡ units_weight (map unit_outline us)
units_same [] = refl
units_same (V.Terminal name pattern regex line ∷ us) = let rest = units_same us in omega arith
units_same (V.Ignorable name pattern regex normal line ∷ us) = let rest = units_same us in omega arith
units_same (V.Fence left right line ∷ us) = let rest = units_same us in omega arith
units_same (V.Production name left right line ∷ us) = omega (arith, units_same us, contents_weight left, all_weigh right nothing)

-- a sheet of at most 65,536 bytes weighs less than 65,536
pub are_light : (bytes : List ℕ) (s : Sheet) → length bytes ≤ 65536 → IsSheetOf bytes s → weight s.units < 65536
are_light bytes s le of = omega (arith, units_same s.units, sheet_light bytes s of)
