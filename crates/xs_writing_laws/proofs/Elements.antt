-- The words of elements laid out flat.
use Rattle.std.proofs.Common.{◌≡◌, ◌∙◌, ◌<◌, ℕ, suc, List, [], ◌∷◌, ◌++◌, map, length, refl, sym, ap, subst, append_assoc}
use Rattle.std.specs.declared.option.Option.{Option}
use Rattle.std.proofs.lemmas.List.Concat.{flat_map-append}
use Rattle.xs_class.specs.Marks.{attr_end, opening_mark, attribute_mark, closing_mark}
use Rattle.xs_class.specs.Ordered.{IsOrdered}
use Rattle.xs_pair.proofs.Numbering.{number_bound}
use Rattle.xs_gram.proofs.Each.{each_append}
use Rattle.xs_sheet.specs.declared.item.Item.{Item}
use Rattle.xs_sheet.specs.declared.item.Item.TheVariants as I
use Rattle.xs_sheet.specs.declared.x_item.Attr.{Attr}
use Rattle.xs_gram.specs.declared.parts.GItem.{GItem}
use Rattle.xs_gram.specs.declared.parts.GItem.TheVariants.{Fixed}
use Rattle.xs_gram.specs.Grammar.{Grammar}
use Rattle.xs_gram.specs.Derivations.{Parts, FitsItems, parts_yield}
use Rattle.xs_gram.specs.Building.{EachOf}
use Rattle.xs_gram.proofs.Inversion.{done_parts}
use Rattle.xs_xml_out.specs.Balanced.{IsContent, nothing, element, attributes_word, element_word, AreAttributes, IsAscending, IsBalanced}
use Rattle.xs_xml_out.specs.Balanced.{Attribute as XAttribute}
use Rattle.xs_pair.specs.declared.mark.Mark.{Mark}
use Rattle.xs_pair.specs.declared.mark.Mark.TheVariants.{Opening, Attribute, AttributeEnd, Closing, Value, Content}
use Rattle.xs_pair.specs.Marks.{attr_marks, attrs_marks, by_name}
use Rattle.xs_pair.specs.Units.{number_of}
use Rattle.xs_pair.specs.Rules.{IsAmong, HasRepeat}
use Rattle.xs_pair.specs.Grammars.{Numbering, named_item, fixed_item, flat_item, flat_mark, flat_marks}
use Rattle.xs_writing_laws.specs.Laws.{AreChars, HasChars}
use Rattle.xs_pair.proofs.Lists.{each_front, each_back}
use Rattle.xs_writing_laws.proofs.Spelling.{IsSpelt}
use Rattle.xs_writing_laws.proofs.Texts.{text_item}
use Rattle.xs_pair.proofs.Nested as N
use Rattle.xs_pair.proofs.Nested.{IsNested, IsElement}
use Rattle.xs_pair.proofs.FlatElements.{opened, flat_element}
use Rattle.xs_writing_laws.proofs.Ascending.{Rises, numbers, attr_number, AreAmong, sorted_rise}
use Rattle.xs_writing_laws.proofs.Cuts.{HasContent, cut, after, attributes_more, content_append, IsValueItem, value_word, content_word}

-- a string of characters of XML, a terminal or an ignorable
abbrev pub IsValue : List (List ℕ) → Item → Type 0
IsValue terms (I.Fixed text) = AreChars text
IsValue terms (I.Named name slot) = IsAmong terms name
IsValue terms (I.Skip name) = Unit {0}

-- names are known, no element has an attribute twice, values have terminals and ignorables only, and
-- strings are characters of XML
abbrev pub IsGood : Numbering → Mark → Type 0
IsGood n (Opening tag names) = IsAmong n.names tag × (HasRepeat names → ⊥)
IsGood n (Attribute name) = IsAmong n.names name
IsGood n AttributeEnd = Unit {0}
IsGood n (Closing tag) = Unit {0}
IsGood n (Value i) = IsValue n.terms i
IsGood n (Content i) = HasChars i

fixed_value : (text : List ℕ) → AreChars text → EachOf IsValueItem (fixed_item text)
fixed_value [] p = tt
fixed_value (c ∷ cs) p = (p, tt)

value_item : (n : Numbering) (slots : List (List ℕ)) (i : Item) → IsValue n.terms i → EachOf IsValueItem (flat_item n slots i)
value_item n slots (I.Fixed text) p = fixed_value text p
value_item n slots (I.Named name slot) p = (subst (λ (o : Option ℕ). IsValueItem (named_item o (number_of n.nons name) (number_of slots slot))) (sym p.1) tt, tt)
value_item n slots (I.Skip name) p = (tt, tt)

value_items : (n : Numbering) (slots : List (List ℕ)) (is : List Item) → EachOf (IsGood n) (map Value is) → EachOf IsValueItem (flat_marks n slots (map Value is))
value_items n slots [] p = tt
value_items n slots (i ∷ is) p = each_append IsValueItem (flat_item n slots i) (flat_marks n slots (map Value is)) (value_item n slots i p.0) (value_items n slots is p.1)

flat_attr : (n : Numbering) (slots : List (List ℕ)) (a : Attr) (rest : List Mark) → flat_marks n slots (attr_marks a ++ rest) ≡ Fixed (attribute_mark (number_of n.names a.name) ∷ []) ∷ (flat_marks n slots (map Value a.value) ++ Fixed (attr_end ∷ []) ∷ flat_marks n slots rest)
flat_attr n slots a rest =
    ap (λ (is : List GItem). Fixed (attribute_mark (number_of n.names a.name) ∷ []) ∷ is) (ap (λ (ms : List Mark). flat_marks n slots ms) (append_assoc (map Value a.value) (AttributeEnd ∷ []) rest) ∙ flat_map-append (flat_mark n slots) (map Value a.value) (AttributeEnd ∷ rest))

-- the word is that of these attributes, with values of characters of XML
record HasAttributes (names : List (List ℕ)) (attrs : List Attr) (word : List ℕ) : Type 0 where
  all : List XAttribute
  are : AreAttributes names all
  are_numbered : map (λ (a : XAttribute). a.name) all ≡ numbers names attrs
  is : word ≡ attributes_word all []

attr_word : (m e : ℕ) (w w1 v w2 w3 u : List ℕ) → w ≡ m ∷ w1 → w1 ≡ v ++ w2 → w2 ≡ e ∷ w3 → w3 ≡ u → w ≡ m ∷ (v ++ e ∷ u)
attr_word m e w w1 v w2 w3 u p q r s = p ∙ ap (λ z. m ∷ z) (q ∙ ap (λ z. v ++ z) (r ∙ ap (λ z. e ∷ z) s))

numbers_more : (names : List (List ℕ)) (a : Attr) (attrs : List Attr) (value : List ℕ) (all : List XAttribute) → map (λ (x : XAttribute). x.name) all ≡ numbers names attrs → map (λ (x : XAttribute). x.name) (record { name = attr_number names a; value = value } ∷ all) ≡ numbers names (a ∷ attrs)
numbers_more names a attrs value all e = ap (λ ns. attr_number names a ∷ ns) e

attrs_parts : (g : Grammar) (n : Numbering) (slots : List (List ℕ)) → IsSpelt g → (attrs : List Attr) (ps : Parts) → EachOf (IsGood n) (attrs_marks attrs) → FitsItems g (flat_marks n slots (attrs_marks attrs)) ps → HasContent n.names ps → HasAttributes n.names attrs (parts_yield ps)
attrs_parts g n slots spelt [] ps good fit inner = record { all = []; are = tt; are_numbered = refl; is = ap parts_yield (done_parts g ps fit) }
attrs_parts g n slots spelt (a ∷ attrs) ps good fit inner =
    let k : ℕ = number_of n.names a.name in
    let here : EachOf (IsGood n) (attr_marks a) = each_front (IsGood n) (attr_marks a) (attrs_marks attrs) good in
    let later : EachOf (IsGood n) (attrs_marks attrs) = each_back (IsGood n) (attr_marks a) (attrs_marks attrs) good in
    let first = after g n.names (attribute_mark k) (flat_marks n slots (map Value a.value) ++ Fixed (attr_end ∷ []) ∷ flat_marks n slots (attrs_marks attrs)) ps (subst (λ (is : List GItem). FitsItems g is ps) (flat_attr n slots a (attrs_marks attrs)) fit) inner in
    let c = cut g n.names (flat_marks n slots (map Value a.value)) (Fixed (attr_end ∷ []) ∷ flat_marks n slots (attrs_marks attrs)) first.rest first.fits first.content in
    let last = after g n.names attr_end (flat_marks n slots (attrs_marks attrs)) c.back c.fits_back c.content_back in
    let more = attrs_parts g n slots spelt attrs last.rest later last.fits last.content in
    let values : EachOf IsValueItem (flat_marks n slots (map Value a.value)) = value_items n slots a.value (each_front (IsGood n) (map Value a.value) (AttributeEnd ∷ []) here.1) in
    record {
      all = record { name = k; value = parts_yield c.front } ∷ more.all;
      are = (number_bound n.names a.name here.0, value_word g spelt (flat_marks n slots (map Value a.value)) c.front values c.fits_front, more.are);
      are_numbered = numbers_more n.names a attrs (parts_yield c.front) more.all more.are_numbered;
      is = attr_word (attribute_mark k) attr_end (parts_yield ps) (parts_yield first.rest) (parts_yield c.front) (parts_yield c.back) (parts_yield last.rest) (attributes_word more.all []) first.is_word c.is_word last.is_word more.is;
    }

rises_ascending : (low : ℕ) (all : List XAttribute) → Rises low (map (λ (a : XAttribute). a.name) all) → IsAscending all
rises_ascending low [] up = tt
rises_ascending low (a ∷ []) up = tt
rises_ascending low (a ∷ b ∷ bs) up = (up.1.0, rises_ascending (suc a.name) (b ∷ bs) up.1)

numbered_ascend : (ns : List ℕ) (all : List XAttribute) → map (λ (a : XAttribute). a.name) all ≡ ns → Rises 0 ns → IsAscending all
numbered_ascend ns all e up = rises_ascending 0 all (subst (Rises 0) (sym e) up)

attrs_among : (n : Numbering) (attrs : List Attr) → EachOf (IsGood n) (attrs_marks attrs) → AreAmong n.names attrs
attrs_among n [] good = tt
attrs_among n (a ∷ attrs) good = (good.0, attrs_among n attrs (each_back (IsGood n) (attr_marks a) (attrs_marks attrs) good))

-- parts for an element: those for its content and those after it
record HasElement (g : Grammar) (n : Numbering) (slots : List (List ℕ)) (inner rest : List Mark) (word : List ℕ) : Type 0 where
  name : ℕ
  attributes : List XAttribute
  front : Parts
  back : Parts
  is_named : name < length n.names
  are_attributes : AreAttributes n.names attributes
  is_ascending : IsAscending attributes
  fits_front : FitsItems g (flat_marks n slots inner) front
  fits_back : FitsItems g (flat_marks n slots rest) back
  content_front : HasContent n.names front
  content_back : HasContent n.names back
  good_inner : EachOf (IsGood n) inner
  good_rest : EachOf (IsGood n) rest
  is : word ≡ element_word name attributes (parts_yield front) (parts_yield back)

whole_word : (o c : ℕ) (all : List XAttribute) (w w1 a w2 i w3 r : List ℕ) → w ≡ o ∷ w1 → w1 ≡ a ++ w2 → a ≡ attributes_word all [] → w2 ≡ i ++ w3 → w3 ≡ c ∷ r → w ≡ o ∷ attributes_word all (i ++ c ∷ r)
whole_word o c all w w1 a w2 i w3 r p q s t u =
    p ∙ ap (λ z. o ∷ z) (q ∙ ap (λ z. z ++ w2) s ∙ attributes_more all [] w2 ∙ ap (λ z. attributes_word all z) (t ∙ ap (λ z. i ++ z) u))

element_parts : (g : Grammar) (n : Numbering) (slots : List (List ℕ)) → IsSpelt g → IsOrdered n.names → (tag : List ℕ) (attrs : List Attr) (inner rest : List Mark) (ps : Parts) → EachOf (IsGood n) (opened tag attrs inner rest) → FitsItems g (flat_marks n slots (opened tag attrs inner rest)) ps → HasContent n.names ps → HasElement g n slots inner rest (parts_yield ps)
element_parts g n slots spelt up tag attrs inner rest ps good fit content =
    let k : ℕ = number_of n.names tag in
    let sorted : List Attr = by_name attrs in
    let flat : List GItem = flat_marks n slots (attrs_marks sorted) in
    let after_inner : List GItem = Fixed (closing_mark k ∷ []) ∷ flat_marks n slots rest in
    let attrs_good : EachOf (IsGood n) (attrs_marks sorted) = each_front (IsGood n) (attrs_marks sorted) (inner ++ Closing tag ∷ rest) good.1 in
    let later : EachOf (IsGood n) (inner ++ Closing tag ∷ rest) = each_back (IsGood n) (attrs_marks sorted) (inner ++ Closing tag ∷ rest) good.1 in
    let first = after g n.names (opening_mark k) (flat ++ (flat_marks n slots inner ++ after_inner)) ps (subst (λ (is : List GItem). FitsItems g is ps) (flat_element n slots tag attrs inner rest) fit) content in
    let c = cut g n.names flat (flat_marks n slots inner ++ after_inner) first.rest first.fits first.content in
    let has = attrs_parts g n slots spelt sorted c.front attrs_good c.fits_front c.content_front in
    let d = cut g n.names (flat_marks n slots inner) after_inner c.back c.fits_back c.content_back in
    let last = after g n.names (closing_mark k) (flat_marks n slots rest) d.back d.fits_back d.content_back in
    let rise : Rises 0 (numbers n.names sorted) = sorted_rise n.names up attrs (attrs_among n sorted attrs_good) good.0.1 in
    record {
      name = k;
      attributes = has.all;
      front = d.front;
      back = last.rest;
      is_named = number_bound n.names tag good.0.0;
      are_attributes = has.are;
      is_ascending = numbered_ascend (numbers n.names sorted) has.all has.are_numbered rise;
      fits_front = d.fits_front;
      fits_back = last.fits;
      content_front = d.content_front;
      content_back = last.content;
      good_inner = each_front (IsGood n) inner (Closing tag ∷ rest) later;
      good_rest = (each_back (IsGood n) inner (Closing tag ∷ rest) later).1;
      is = whole_word (opening_mark k) (closing_mark k) has.all (parts_yield ps) (parts_yield first.rest) (parts_yield c.front) (parts_yield c.back) (parts_yield d.front) (parts_yield d.back) (parts_yield last.rest) first.is_word c.is_word has.is d.is_word last.is_word;
    }

-- parts for items and elements yield content
pub nested_content : (g : Grammar) (n : Numbering) (slots : List (List ℕ)) → IsSpelt g → IsOrdered n.names → {ms : List Mark} → IsNested ms → (ps : Parts) → EachOf (IsGood n) ms → FitsItems g (flat_marks n slots ms) ps → HasContent n.names ps → IsContent n.names (parts_yield ps)
nested_content g n slots spelt up N.none ps good fit content = subst (IsContent n.names) (sym (ap parts_yield (done_parts g ps fit))) nothing
nested_content g n slots spelt up (N.plain i rest more) ps good fit content =
    let c = cut g n.names (flat_item n slots i) (flat_marks n slots rest) ps fit content in
    let first : IsContent n.names (parts_yield c.front) = content_word g n.names spelt (flat_item n slots i) c.front (text_item n slots i good.0) c.fits_front c.content_front in
    subst (IsContent n.names) (sym c.is_word) (content_append (parts_yield c.back) first (nested_content g n slots spelt up more c.back good.1 c.fits_back c.content_back))
nested_content g n slots spelt up (N.element tag attrs inner rest whole inside more e) ps good fit content =
    let h = element_parts g n slots spelt up tag attrs inner rest ps (subst (EachOf (IsGood n)) e good) (subst (λ (ms : List Mark). FitsItems g (flat_marks n slots ms) ps) e fit) content in
    element h.name h.attributes (parts_yield h.front) (parts_yield h.back) (parts_yield ps) h.is_named h.are_attributes h.is_ascending (nested_content g n slots spelt up inside h.front h.good_inner h.fits_front h.content_front) (nested_content g n slots spelt up more h.back h.good_rest h.fits_back h.content_back) h.is

-- parts for one element yield a balanced word
pub element_balanced : (g : Grammar) (n : Numbering) (slots : List (List ℕ)) → IsSpelt g → IsOrdered n.names → (ms : List Mark) → IsElement ms → (ps : Parts) → EachOf (IsGood n) ms → FitsItems g (flat_marks n slots ms) ps → HasContent n.names ps → IsBalanced n.names (parts_yield ps)
element_balanced g n slots spelt up ms el ps good fit content =
    let h = element_parts g n slots spelt up el.tag el.attrs el.inner [] ps (subst (EachOf (IsGood n)) el.is good) (subst (λ (xs : List Mark). FitsItems g (flat_marks n slots xs) ps) el.is fit) content in
    record {
      name = h.name;
      attributes = h.attributes;
      content = parts_yield h.front;
      is_named = h.is_named;
      are_attributes = h.are_attributes;
      is_ascending = h.is_ascending;
      is_content = nested_content g n slots spelt up el.nested h.front h.good_inner h.fits_front h.content_front;
      is = h.is ∙ ap (λ w. element_word h.name h.attributes (parts_yield h.front) w) (ap parts_yield (done_parts g h.back h.fits_back));
    }
