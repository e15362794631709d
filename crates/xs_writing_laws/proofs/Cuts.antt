-- Parts cut where their items are cut.
use Rattle.std.proofs.Common.{◌≡◌, ◌∙◌, ℕ, List, [], ◌∷◌, ◌++◌, refl, sym, ap, subst, append_assoc}
use Rattle.xs_gram.specs.declared.parts.GItem.{GItem}
use Rattle.xs_gram.specs.declared.parts.GItem.TheVariants.{Fixed, Term, Non, Skip}
use Rattle.xs_gram.specs.Grammar.{Grammar}
use Rattle.xs_gram.specs.Derivations.{Parts, done, fixed, leaf, skip, sub, FitsItems, parts_yield}
use Rattle.xs_gram.specs.Building.{EachOf}
use Rattle.xs_gram.proofs.Inversion.{fixed_parts}
use Rattle.xs_xml_laws.specs.Tables.{is_char}
use Rattle.xs_xml_laws.specs.Piece.{all_of}
use Rattle.xs_xml_out.specs.Balanced.{IsContent, nothing, text, element, attributes_word, element_word}
use Rattle.xs_xml_out.specs.Balanced.{Attribute as XAttribute}
use Rattle.xs_class.specs.Marks.{attr_end, opening_mark, attribute_mark, closing_mark}
use Rattle.xs_writing_laws.specs.Laws.{AreChars}
use Rattle.xs_writing_laws.proofs.Characters.{chars_append}
use Rattle.xs_writing_laws.proofs.Spelling.{IsSpelt}
use Rattle.xs_writing_laws.proofs.Texts.{IsTextItem}
use Rattle.xs_class.proofs.Truth.{and_true}

-- the word of each inner derivation is content
abbrev pub HasContent : List (List ℕ) → Parts → Type 0
HasContent names done = Unit {0}
HasContent names (fixed u ps) = HasContent names ps
HasContent names (leaf u ps) = HasContent names ps
HasContent names (skip u ps) = HasContent names ps
HasContent names (sub q qs ps) = IsContent names (parts_yield qs) × HasContent names ps

-- parts for some items, and parts for the items after them
pub record Cut (g : Grammar) (names : List (List ℕ)) (is js : List GItem) (word : List ℕ) : Type 0 where
  pub front : Parts
  pub back : Parts
  pub fits_front : FitsItems g is front
  pub fits_back : FitsItems g js back
  pub content_front : HasContent names front
  pub content_back : HasContent names back
  pub is_word : word ≡ parts_yield front ++ parts_yield back

word_more : (u w x y : List ℕ) → w ≡ x ++ y → u ++ w ≡ (u ++ x) ++ y
word_more u w x y e = ap (λ z. u ++ z) e ∙ sym (append_assoc u x y)

pub cut : (g : Grammar) (names : List (List ℕ)) (is js : List GItem) (ps : Parts) → FitsItems g (is ++ js) ps → HasContent names ps → Cut g names is js (parts_yield ps)
cut g names [] js ps fit inner = record { front = done; back = ps; fits_front = tt; fits_back = fit; content_front = tt; content_back = inner; is_word = refl }
cut g names (Fixed f ∷ is) js (fixed u ps) fit inner =
    let c = cut g names is js ps fit.1 inner in
    record { front = fixed u c.front; back = c.back; fits_front = (fit.0, c.fits_front); fits_back = c.fits_back; content_front = c.content_front; content_back = c.content_back; is_word = word_more u (parts_yield ps) (parts_yield c.front) (parts_yield c.back) c.is_word }
cut g names (Term t s ∷ is) js (leaf u ps) fit inner =
    let c = cut g names is js ps fit.1 inner in
    record { front = leaf u c.front; back = c.back; fits_front = (fit.0, c.fits_front); fits_back = c.fits_back; content_front = c.content_front; content_back = c.content_back; is_word = word_more u (parts_yield ps) (parts_yield c.front) (parts_yield c.back) c.is_word }
cut g names (Skip k ∷ is) js (skip u ps) fit inner =
    let c = cut g names is js ps fit.1 inner in
    record { front = skip u c.front; back = c.back; fits_front = (fit.0, c.fits_front); fits_back = c.fits_back; content_front = c.content_front; content_back = c.content_back; is_word = word_more u (parts_yield ps) (parts_yield c.front) (parts_yield c.back) c.is_word }
cut g names (Non n s ∷ is) js (sub q qs ps) fit inner =
    let c = cut g names is js ps fit.2 inner.1 in
    record { front = sub q qs c.front; back = c.back; fits_front = (fit.0, fit.1, c.fits_front); fits_back = c.fits_back; content_front = (inner.0, c.content_front); content_back = c.content_back; is_word = word_more (parts_yield qs) (parts_yield ps) (parts_yield c.front) (parts_yield c.back) c.is_word }
cut g names is js ps fit inner = absurd fit

-- the parts after the fixed word of one symbol
pub record After (g : Grammar) (names : List (List ℕ)) (s : ℕ) (is : List GItem) (word : List ℕ) : Type 0 where
  pub rest : Parts
  pub fits : FitsItems g is rest
  pub content : HasContent names rest
  pub is_word : word ≡ s ∷ parts_yield rest

pub after : (g : Grammar) (names : List (List ℕ)) (s : ℕ) (is : List GItem) (ps : Parts) → FitsItems g (Fixed (s ∷ []) ∷ is) ps → HasContent names ps → After g names s is (parts_yield ps)
after g names s is ps fit inner =
    let first = fixed_parts g (s ∷ []) is ps fit in
    record { rest = first.0; fits = first.2; content = subst (HasContent names) first.1 inner; is_word = ap parts_yield first.1 }

-- attributes, and what stands after them
pub attributes_more : (all : List XAttribute) (x y : List ℕ) → attributes_word all x ++ y ≡ attributes_word all (x ++ y)
attributes_more [] x y = refl
attributes_more (a ∷ all) x y = ap (λ w. attribute_mark a.name ∷ w) (append_assoc a.value (attr_end ∷ attributes_word all x) y ∙ ap (λ w. a.value ++ attr_end ∷ w) (attributes_more all x y))

element_more : (k : ℕ) (all : List XAttribute) (content rest more whole : List ℕ) → whole ≡ element_word k all content rest → whole ++ more ≡ element_word k all content (rest ++ more)
element_more k all content rest more whole e =
    ap (λ w. w ++ more) e ∙ ap (λ w. opening_mark k ∷ w) (attributes_more all (content ++ closing_mark k ∷ rest) more ∙ ap (λ w. attributes_word all w) (append_assoc content (closing_mark k ∷ rest) more))

pub content_append : {names : List (List ℕ)} {u : List ℕ} (v : List ℕ) → IsContent names u → IsContent names v → IsContent names (u ++ v)
content_append v nothing q = q
content_append v (text c rest is more) q = text c (rest ++ v) is (content_append v more q)
content_append v (element k all content rest whole below are up inside more e) q = element k all content (rest ++ v) (whole ++ v) below are up inside (content_append v more q) (element_more k all content rest v whole e)

pub chars_content : (names : List (List ℕ)) (w : List ℕ) → AreChars w → IsContent names w
chars_content names [] p = nothing
chars_content names (c ∷ w) p = let both = and_true (is_char c) (all_of is_char w) p in text c w both.0 (chars_content names w both.1)

-- an item of an attribute's value: a fixed word of characters of XML, a terminal or an ignorable
abbrev pub IsValueItem : GItem → Type 0
IsValueItem (Fixed f) = AreChars f
IsValueItem (Term t s) = Unit {0}
IsValueItem (Non n s) = ⊥
IsValueItem (Skip k) = Unit {0}

pub value_word : (g : Grammar) → IsSpelt g → (is : List GItem) (ps : Parts) → EachOf IsValueItem is → FitsItems g is ps → AreChars (parts_yield ps)
value_word g spelt [] done each fit = refl
value_word g spelt (Fixed f ∷ is) (fixed u ps) each fit = chars_append u (parts_yield ps) (subst AreChars (sym fit.0) each.0) (value_word g spelt is ps each.1 fit.1)
value_word g spelt (Term t s ∷ is) (leaf u ps) each fit = chars_append u (parts_yield ps) (spelt.terms t u fit.0) (value_word g spelt is ps each.1 fit.1)
value_word g spelt (Skip k ∷ is) (skip u ps) each fit = chars_append u (parts_yield ps) (spelt.skips k u fit.0) (value_word g spelt is ps each.1 fit.1)
value_word g spelt (Non n s ∷ is) (sub q qs ps) each fit = absurd each.0
value_word g spelt is ps each fit = absurd fit

-- items without markup, where the word of each inner derivation is content
pub content_word : (g : Grammar) (names : List (List ℕ)) → IsSpelt g → (is : List GItem) (ps : Parts) → EachOf IsTextItem is → FitsItems g is ps → HasContent names ps → IsContent names (parts_yield ps)
content_word g names spelt [] done each fit inner = nothing
content_word g names spelt (Fixed f ∷ is) (fixed u ps) each fit inner = content_append (parts_yield ps) (chars_content names u (subst AreChars (sym fit.0) each.0)) (content_word g names spelt is ps each.1 fit.1 inner)
content_word g names spelt (Term t s ∷ is) (leaf u ps) each fit inner = content_append (parts_yield ps) (chars_content names u (spelt.terms t u fit.0)) (content_word g names spelt is ps each.1 fit.1 inner)
content_word g names spelt (Skip k ∷ is) (skip u ps) each fit inner = content_append (parts_yield ps) (chars_content names u (spelt.skips k u fit.0)) (content_word g names spelt is ps each.1 fit.1 inner)
content_word g names spelt (Non n s ∷ is) (sub q qs ps) each fit inner = content_append (parts_yield ps) inner.0 (content_word g names spelt is ps each.1 fit.2 inner.1)
content_word g names spelt is ps each fit inner = absurd fit
