-- Words on a page, one after another.
use Rattle.std.proofs.Common.{◌≡◌, ℕ, ◌+◌, ◌<◌, Bool, true, false, List, [], ◌∷◌, ◌++◌, map, length, take, get_or, codes, append-nil, append_assoc, refl, sym, ap, ◌∙◌, subst}
use Rattle.std.proofs.lemmas.List.{map-append}
use Rattle.xs_class.proofs.Lists.{take_next}
use Rattle.xs_sheet.specs.declared.item.Item.{Item}
use Rattle.xs_sheet.specs.declared.x_item.Attr.{Attr}
use Rattle.xs_sheet.specs.declared.x_item.XItem.{XItem, Plain, Element}
use Rattle.xs_sheet.specs.declared.x_item.XItem.TheOpen as O
use Rattle.xs_sheet.specs.declared.x_item.XItem.TheOpen.{XItem-F}
use Rattle.xs_sheet.specs.declared.x_item.XItem.TheFolds.{fold_out-XItem}
use Rattle.xs_sheet.specs.declared.unit.Unit.{Unit}
use Rattle.xs_sheet.specs.declared.sheet.Sheet.{Sheet}
use Rattle.xs_sheet.specs.Outline.{Content, nothing, laid, item_step, with_item, content_of, unit_outline, outline_of}
use Rattle.xs_lex.specs.declared.kind.Kind.TheVariants.{Colon, Equals, Angle, AngleSlash, AngleEnd, SlashEnd}
use Rattle.xs_sheet.specs.Grammar.{version_word}
use Rattle.xs_sheet.specs.Layout.{Written, as_is, sign, spelling, holds_nothing, after_attrs, element_words, item_words, items_words, attr_words, attrs_words, content_words, unit_words, spaced, line_text, lines_text, sheet_lines}
use Rattle.xs_sheet.proofs.ContentLaws.{content_push, with_plain, with_element}

pub spaced-append : (a b : List Written) → spaced (a ++ b) ≡ spaced a ++ spaced b
spaced-append [] b = refl
spaced-append (w ∷ ws) b = ap (λ (z : List ℕ). 32 ∷ (spelling w ++ z)) (spaced-append ws b) ∙ ap (λ (z : List ℕ). 32 ∷ z) (sym (append_assoc (spelling w) (spaced ws) (spaced b)))

pub page_on : (old page new a b c : List ℕ) → page ≡ old ++ a → new ≡ page ++ b → c ≡ a ++ b → new ≡ old ++ c
page_on old page new a b c so_far is all = is ∙ ap (λ (z : List ℕ). z ++ b) so_far ∙ append_assoc old a b ∙ ap (λ (z : List ℕ). old ++ z) (sym all)

items_push : (is : List Item) (i : Item) → items_words (is ++ i ∷ []) ≡ items_words is ++ item_words i
items_push [] i = append-nil (item_words i)
items_push (j ∷ is) i = ap (λ (z : List Written). item_words j ++ z) (items_push is i) ∙ sym (append_assoc (item_words j) (items_words is) (item_words i))

attrs_push : (as_ : List Attr) (a : Attr) → attrs_words (as_ ++ a ∷ []) ≡ attrs_words as_ ++ attr_words a
attrs_push [] a = append-nil (attr_words a)
attrs_push (b ∷ as_) a = ap (λ (z : List Written). attr_words b ++ z) (attrs_push as_ a) ∙ sym (append_assoc (attr_words b) (attrs_words as_) (attr_words a))

lines_push : (ls : List (List Written)) (l : List Written) → lines_text (ls ++ l ∷ []) ≡ lines_text ls ++ line_text l
lines_push [] l = append-nil (line_text l)
lines_push (m ∷ ls) l = ap (λ (z : List ℕ). line_text m ++ z) (lines_push ls l) ∙ sym (append_assoc (line_text m) (lines_text ls) (line_text l))

one_step : (l : XItem-F (Content → Content)) (before : Content) → content_words (item_step l before) ≡ content_words before ++ content_words (item_step l nothing)
one_step (O.Plain i) before = refl
one_step (O.Element tag as_ inner) before = refl

stepped : (f : Content → Content) (l : XItem-F (Content → Content)) → f ≡ item_step l → (before : Content) → content_words (f before) ≡ content_words before ++ content_words (f nothing)
stepped f l is before = subst (λ (g : Content → Content). content_words (g before) ≡ content_words before ++ content_words (g nothing)) (sym is) (one_step l before)

words_after : (x : XItem) (before : Content) → content_words (with_item x before) ≡ content_words before ++ content_words (with_item x nothing)
unfolding with_item
words_after x before = stepped (with_item x) _ (fold_out-XItem (Content → Content) item_step x) before

content_more : (xs : List XItem) (x : XItem) → content_words (content_of (xs ++ x ∷ [])) ≡ content_words (content_of xs) ++ content_words (with_item x nothing)
content_more xs x = ap (λ (z : Content). content_words z) (content_push xs x) ∙ words_after x (content_of xs)

pub items_on : (old page new : List ℕ) (is : List Item) (n : ℕ) (i : Item) → n < length is → i ≡ get_or is n i → page ≡ old ++ spaced (items_words (take n is)) → new ≡ page ++ spaced (item_words i) → new ≡ old ++ spaced (items_words (take (n + 1) is))
items_on old page new is n i low at so_far here =
    page_on old page new _ _ _ so_far here (ap (λ (z : List Item). spaced (items_words z)) (take_next is n i low at) ∙ ap (λ (z : List Written). spaced z) (items_push (take n is) i) ∙ spaced-append (items_words (take n is)) (item_words i))

pub attrs_on : (old page new : List ℕ) (as_ : List Attr) (n : ℕ) (a : Attr) → n < length as_ → a ≡ get_or as_ n a → page ≡ old ++ spaced (attrs_words (take n as_)) → new ≡ page ++ spaced (attr_words a) → new ≡ old ++ spaced (attrs_words (take (n + 1) as_))
attrs_on old page new as_ n a low at so_far here =
    page_on old page new _ _ _ so_far here (ap (λ (z : List Attr). spaced (attrs_words z)) (take_next as_ n a low at) ∙ ap (λ (z : List Written). spaced z) (attrs_push (take n as_) a) ∙ spaced-append (attrs_words (take n as_)) (attr_words a))

pub content_on : (old page new : List ℕ) (xs : List XItem) (n : ℕ) (x : XItem) → n < length xs → x ≡ get_or xs n x → page ≡ old ++ spaced (content_words (content_of (take n xs))) → new ≡ page ++ spaced (content_words (with_item x nothing)) → new ≡ old ++ spaced (content_words (content_of (take (n + 1) xs)))
content_on old page new xs n x low at so_far here =
    page_on old page new _ _ _ so_far here (ap (λ (z : List XItem). spaced (content_words (content_of z))) (take_next xs n x low at) ∙ ap (λ (z : List Written). spaced z) (content_more (take n xs) x) ∙ spaced-append (content_words (content_of (take n xs))) (content_words (with_item x nothing)))

abbrev unit_line : Unit → List Written
unit_line u = unit_words (unit_outline u)

pub units_on : (old page new : List ℕ) (us : List Unit) (n : ℕ) (u : Unit) → n < length us → u ≡ get_or us n u → page ≡ old ++ lines_text (map unit_line (take n us)) → new ≡ page ++ line_text (unit_line u) → new ≡ old ++ lines_text (map unit_line (take (n + 1) us))
units_on old page new us n u low at so_far here =
    page_on old page new _ _ _ so_far here (ap (λ (z : List Unit). lines_text (map unit_line z)) (take_next us n u low at) ∙ ap (λ (z : List (List Written)). lines_text z) (map-append unit_line (take n us) (u ∷ [])) ∙ lines_push (map unit_line (take n us)) (unit_line u))

-- an element
item_some : (l : XItem-F (Content → Content)) (before : Content) → holds_nothing (item_step l before) ≡ false
item_some (O.Plain i) before = refl
item_some (O.Element tag as_ inner) before = refl

stepped_some : (f : Content → Content) (l : XItem-F (Content → Content)) → f ≡ item_step l → (before : Content) → holds_nothing (f before) ≡ false
stepped_some f l is before = subst (λ (g : Content → Content). holds_nothing (g before) ≡ false) (sym is) (item_some l before)

with_some : (x : XItem) (before : Content) → holds_nothing (with_item x before) ≡ false
unfolding with_item
with_some x before = stepped_some (with_item x) _ (fold_out-XItem (Content → Content) item_step x) before

laid_some : (xs : List XItem) (before : Content) → holds_nothing before ≡ false → holds_nothing (laid before (map with_item xs)) ≡ false
laid_some [] before some = some
laid_some (x ∷ xs) before some = laid_some xs (with_item x before) (with_some x before)

some_content : (xs : List XItem) → (xs ≡ [] → ⊥) → holds_nothing (content_of xs) ≡ false
some_content [] some = absurd (some refl)
some_content (x ∷ xs) some = laid_some xs (with_item x nothing) (with_some x nothing)

words_of : (x : XItem) (tag : List ℕ) (as_ : List Attr) (content : List XItem) → x ≡ Element tag as_ content → content_words (with_item x nothing) ≡ element_words tag as_ (holds_nothing (content_of content)) (content_words (content_of content))
words_of x tag as_ content is = ap (λ (z : XItem). content_words (with_item z nothing)) is ∙ ap (λ (z : Content). content_words z) (with_element tag as_ content nothing)

abbrev front : List ℕ → List Attr → List Written
front tag as_ = sign Angle ∷ as_is tag ∷ attrs_words as_

abbrev back : List ℕ → List Written
back tag = sign AngleSlash ∷ as_is tag ∷ sign AngleEnd ∷ []

pub empty_element : (old page new : List ℕ) (x : XItem) (tag : List ℕ) (as_ shown : List Attr) (content : List XItem) → x ≡ Element tag as_ content → shown ≡ as_ → content ≡ [] → page ≡ old ++ spaced (front tag shown) → new ≡ page ++ 32 ∷ 47 ∷ 62 ∷ [] → new ≡ old ++ spaced (content_words (with_item x nothing))
empty_element old page new x tag as_ shown content is same none so_far here =
    let words : content_words (with_item x nothing) ≡ element_words tag as_ true [] = words_of x tag as_ content is ∙ ap (λ (z : List XItem). element_words tag as_ (holds_nothing (content_of z)) (content_words (content_of z))) none in
    page_on old page new (spaced (front tag as_)) (32 ∷ 47 ∷ 62 ∷ []) (spaced (content_words (with_item x nothing))) (so_far ∙ ap (λ (z : List Attr). old ++ spaced (front tag z)) same) here (ap (λ (z : List Written). spaced z) words ∙ spaced-append (front tag as_) (sign SlashEnd ∷ []))

regroup : (f i e : List ℕ) → f ++ ((32 ∷ 62 ∷ i) ++ e) ≡ ((f ++ 32 ∷ 62 ∷ []) ++ i) ++ e
regroup f i e = sym (append_assoc (f ++ 32 ∷ 62 ∷ []) i e ∙ append_assoc f (32 ∷ 62 ∷ []) (i ++ e))

pub whole_element : (old page opened filled new : List ℕ) (x : XItem) (tag : List ℕ) (as_ shown : List Attr) (content : List XItem) (xs : List XItem) → x ≡ Element tag as_ content → shown ≡ as_ → (content ≡ [] → ⊥) → xs ≡ content → page ≡ old ++ spaced (front tag shown) → opened ≡ page ++ 32 ∷ 62 ∷ [] → filled ≡ opened ++ spaced (content_words (content_of xs)) → new ≡ filled ++ spaced (back tag) → new ≡ old ++ spaced (content_words (with_item x nothing))
whole_element old page opened filled new x tag as_ shown content xs is same some all so_far begun inside ended =
    let inner = content_words (content_of content) in
    let words : content_words (with_item x nothing) ≡ element_words tag as_ false inner = words_of x tag as_ content is ∙ ap (λ (t : Bool). element_words tag as_ t inner) (some_content content some) in
    let f = spaced (front tag as_) in
    let i = spaced inner in
    let e = spaced (back tag) in
    let one = page_on old page opened f (32 ∷ 62 ∷ []) (f ++ 32 ∷ 62 ∷ []) (so_far ∙ ap (λ (z : List Attr). old ++ spaced (front tag z)) same) begun refl in
    let two = page_on old opened filled (f ++ 32 ∷ 62 ∷ []) i ((f ++ 32 ∷ 62 ∷ []) ++ i) one (inside ∙ ap (λ (z : List XItem). opened ++ spaced (content_words (content_of z))) all) refl in
    page_on old filled new ((f ++ 32 ∷ 62 ∷ []) ++ i) e (spaced (content_words (with_item x nothing))) two ended (ap (λ (z : List Written). spaced z) words ∙ spaced-append (front tag as_) (after_attrs tag false inner) ∙ ap (λ (z : List ℕ). f ++ z) (spaced-append (sign AngleEnd ∷ inner) (back tag)) ∙ regroup f i e)

pub plain_item : (old new : List ℕ) (x : XItem) (i : Item) → x ≡ Plain i → new ≡ old ++ spaced (item_words i) → new ≡ old ++ spaced (content_words (with_item x nothing))
plain_item old new x i is here = here ∙ ap (λ (z : List Written). old ++ spaced z) (sym (ap (λ (z : XItem). content_words (with_item z nothing)) is ∙ ap (λ (z : Content). content_words z) (with_plain i nothing)))

-- a production
pub production_on : (old named coloned lefted equalled new name : List ℕ) (left right : List Written) → named ≡ old ++ name → coloned ≡ named ++ 32 ∷ 58 ∷ [] → lefted ≡ coloned ++ spaced left → equalled ≡ lefted ++ 32 ∷ 61 ∷ [] → new ≡ equalled ++ spaced right → new ≡ old ++ name ++ spaced (sign Colon ∷ (left ++ sign Equals ∷ right))
production_on old named coloned lefted equalled new name left right a b c d e =
    let base = old ++ name in
    let l = spaced left in
    let r = spaced right in
    let one : coloned ≡ base ++ 32 ∷ 58 ∷ [] = b ∙ ap (λ (z : List ℕ). z ++ 32 ∷ 58 ∷ []) a in
    let two = page_on base coloned lefted (32 ∷ 58 ∷ []) l (32 ∷ 58 ∷ l) one c refl in
    let three = page_on base lefted equalled (32 ∷ 58 ∷ l) (32 ∷ 61 ∷ []) ((32 ∷ 58 ∷ l) ++ 32 ∷ 61 ∷ []) two d refl in
    page_on base equalled new ((32 ∷ 58 ∷ l) ++ 32 ∷ 61 ∷ []) r (spaced (sign Colon ∷ (left ++ sign Equals ∷ right))) three e (ap (λ (z : List ℕ). 32 ∷ 58 ∷ z) (spaced-append left (sign Equals ∷ right)) ∙ sym (append_assoc (32 ∷ 58 ∷ l) (32 ∷ 61 ∷ []) r))

-- the whole
unit_lines : (us : List Unit) → map unit_line us ≡ map unit_words (map unit_outline us)
unit_lines [] = refl
unit_lines (u ∷ us) = ap (λ (z : List (List Written)). unit_line u ∷ z) (unit_lines us)

head_on : (version start units : List ℕ) → (([] ++ version ++ codes "\nstart " ++ start ++ 10 ∷ []) ++ units) ≡ (version ++ 10 ∷ []) ++ ((codes "start" ++ ((32 ∷ (start ++ [])) ++ 10 ∷ [])) ++ units)
head_on version start units =
    let line = codes "\nstart " ++ (start ++ 10 ∷ []) in
    let front : version ++ codes "\nstart " ++ start ++ 10 ∷ [] ≡ version ++ line = append_assoc (version ++ codes "\nstart ") start (10 ∷ []) ∙ append_assoc version (codes "\nstart ") (start ++ 10 ∷ []) in
    ap (λ (z : List ℕ). z ++ units) front ∙ append_assoc version line units ∙ ap (λ (z : List ℕ). version ++ ((10 ∷ codes "start " ++ (z ++ 10 ∷ [])) ++ units)) (sym (append-nil start)) ∙ sym (append_assoc version (10 ∷ []) ((codes "start" ++ ((32 ∷ (start ++ [])) ++ 10 ∷ [])) ++ units))

pub sheet_on : (s : Sheet) (shown : List Unit) (empty head page : List ℕ) → shown ≡ s.units → empty ≡ [] → head ≡ empty ++ version_word s.version ++ codes "\nstart " ++ s.start ++ 10 ∷ [] → page ≡ head ++ lines_text (map unit_line shown) → page ≡ lines_text (sheet_lines (outline_of s))
sheet_on s shown empty head page same none begun is =
    let version = version_word s.version in
    let units : lines_text (map unit_line shown) ≡ lines_text (map unit_words (map unit_outline s.units)) = ap (λ (us : List Unit). lines_text (map unit_line us)) same ∙ ap (λ (z : List (List Written)). lines_text z) (unit_lines s.units) in
    is ∙ ap (λ (z : List ℕ). z ++ lines_text (map unit_line shown)) (begun ∙ ap (λ (z : List ℕ). z ++ version ++ codes "\nstart " ++ s.start ++ 10 ∷ []) none) ∙ ap (λ (z : List ℕ). ([] ++ version ++ codes "\nstart " ++ s.start ++ 10 ∷ []) ++ z) units ∙ head_on version s.start (lines_text (map unit_words (map unit_outline s.units)))
