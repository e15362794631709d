-- The symbols of a balanced word can be written.
use Rattle.std.proofs.Common.{◌≡◌, ℕ, ◌<◌, List, [], ◌∷◌, ◌++◌, length, true, sym, subst}
use Rattle.std.proofs.lemmas.List.Elements.{All-nil, All-cons, All-append}
use Rattle.xs_class.specs.Marks.{attr_end, opening_mark, attribute_mark, closing_mark}
use Rattle.xs_xml_laws.specs.Tables.{is_char}
use Rattle.xs_xml_laws.specs.Piece.{all_of}
use Rattle.xs_xml_out.specs.Balanced.{Attribute, attributes_word, element_word, AreAttributes, IsContent, nothing, text, element, IsBalanced}
use Rattle.xs_xml_out.specs.Spelling.{IsKnownSymbol, AreKnown}
use Rattle.xs_xml_out.proofs.SymbolKinds.{char_scalar, symbol_kind-char, symbol_kind-attr_end, symbol_kind-opening_mark, symbol_kind-attribute_mark, symbol_kind-closing_mark}
use Rattle.xs_class.proofs.Truth.{and_true}

module _ (names : List (List ℕ)) where
  char_known : (c : ℕ) → is_char c ≡ true → IsKnownSymbol names c
  char_known c is = rw (symbol_kind-char c is) (char_scalar c is)

  end_known : IsKnownSymbol names attr_end
  end_known = rw symbol_kind-attr_end tt

  opening_known : (k : ℕ) → k < length names → IsKnownSymbol names (opening_mark k)
  opening_known k below = rw (symbol_kind-opening_mark k) below

  attribute_known : (k : ℕ) → k < length names → IsKnownSymbol names (attribute_mark k)
  attribute_known k below = rw (symbol_kind-attribute_mark k) below

  closing_known : (k : ℕ) → k < length names → IsKnownSymbol names (closing_mark k)
  closing_known k below = rw (symbol_kind-closing_mark k) below

  more : (symbol : ℕ) (word : List ℕ) → IsKnownSymbol names symbol → AreKnown names word → AreKnown names (symbol ∷ word)
  more symbol word here later = All-cons (IsKnownSymbol names) symbol word here later

  chars_known : (cs : List ℕ) → all_of is_char cs ≡ true → AreKnown names cs
  chars_known [] all = All-nil (IsKnownSymbol names)
  chars_known (c ∷ cs) all = let both = and_true (is_char c) (all_of is_char cs) all in more c cs (char_known c both.0) (chars_known cs both.1)

  attributes_known : (as_ : List Attribute) (rest : List ℕ) → AreAttributes names as_ → AreKnown names rest → AreKnown names (attributes_word as_ rest)
  attributes_known [] rest are later = later
  attributes_known (a ∷ as_) rest are later =
      let tail = attributes_known as_ rest are.2 later in
      let value = All-append (IsKnownSymbol names) a.value (attr_end ∷ attributes_word as_ rest) (chars_known a.value are.1) (more attr_end (attributes_word as_ rest) end_known tail) in
      more (attribute_mark a.name) (a.value ++ attr_end ∷ attributes_word as_ rest) (attribute_known a.name are.0) value

  element_known : (k : ℕ) (as_ : List Attribute) (content rest : List ℕ) → k < length names → AreAttributes names as_ → AreKnown names content → AreKnown names rest → AreKnown names (element_word k as_ content rest)
  element_known k as_ content rest below are inner later =
      let close = more (closing_mark k) rest (closing_known k below) later in
      let body = All-append (IsKnownSymbol names) content (closing_mark k ∷ rest) inner close in
      more (opening_mark k) (attributes_word as_ (content ++ closing_mark k ∷ rest)) (opening_known k below) (attributes_known as_ (content ++ closing_mark k ∷ rest) are body)

content_known : (names : List (List ℕ)) (word : List ℕ) → IsContent names word → AreKnown names word
content_known names word nothing = All-nil (IsKnownSymbol names)
content_known names word (text c rest is later) = more names c rest (char_known names c is) (content_known names rest later)
content_known names word (element k as_ content rest whole below are ascend inner later is) = subst (AreKnown names) (sym is) (element_known names k as_ content rest below are (content_known names content inner) (content_known names rest later))

pub balanced_known : (names : List (List ℕ)) (word : List ℕ) → IsBalanced names word → AreKnown names word
balanced_known names word b = subst (AreKnown names) (sym b.is) (element_known names b.name b.attributes b.content [] b.is_named b.are_attributes (content_known names b.content b.is_content) (All-nil (IsKnownSymbol names)))
