-- The mode in which the writing of a word ends.
use Rattle.std.proofs.Common.{◌≡◌, ℕ, List, [], ◌∷◌, ◌++◌, true, codes, refl, ◌∙◌, ap}
use Rattle.xs_class.specs.Marks.{attr_end, opening_mark, attribute_mark, closing_mark}
use Rattle.xs_xml_laws.specs.Tables.{is_char}
use Rattle.xs_xml_laws.specs.Piece.{all_of}
use Rattle.xs_xml_out.specs.declared.mode.Mode.{Mode}
use Rattle.xs_xml_out.specs.declared.mode.Mode.TheVariants.{Content, Tag, Value}
use Rattle.xs_xml_out.specs.Balanced.{Attribute, attributes_word, element_word, AreAttributes}
use Rattle.xs_xml_out.specs.Written.{symbol_kind, next, mode_after, written, xml_chars}
use Rattle.xs_xml_out.proofs.Appended.{written-append, mode_after-append}
use Rattle.xs_xml_out.proofs.SymbolKinds.{symbol_kind-char, symbol_kind-attr_end, symbol_kind-opening_mark, symbol_kind-attribute_mark, symbol_kind-closing_mark}
use Rattle.xs_class.proofs.Truth.{and_true}

value_step : (c : ℕ) → is_char c ≡ true → next Value (symbol_kind c) ≡ Value
value_step c is = rw (symbol_kind-char c is) refl

value_end_step : next Value (symbol_kind attr_end) ≡ Tag
value_end_step = rw symbol_kind-attr_end refl

value_ends : (v rest : List ℕ) → all_of is_char v ≡ true → mode_after Value (v ++ attr_end ∷ rest) ≡ mode_after Tag rest
value_ends [] rest all = ap (λ (m : Mode). mode_after m rest) value_end_step
value_ends (c ∷ cs) rest all = let both = and_true (is_char c) (all_of is_char cs) all in ap (λ (m : Mode). mode_after m (cs ++ attr_end ∷ rest)) (value_step c both.0) ∙ value_ends cs rest both.1

attribute_step : (k : ℕ) → next Tag (symbol_kind (attribute_mark k)) ≡ Value
attribute_step k = rw (symbol_kind-attribute_mark k) refl

attributes_end : (names : List (List ℕ)) (as_ : List Attribute) (rest : List ℕ) → AreAttributes names as_ → mode_after Tag (attributes_word as_ rest) ≡ mode_after Tag rest
attributes_end names [] rest are = refl
attributes_end names (a ∷ as_) rest are = ap (λ (m : Mode). mode_after m (a.value ++ attr_end ∷ attributes_word as_ rest)) (attribute_step a.name) ∙ value_ends a.value (attributes_word as_ rest) are.1 ∙ attributes_end names as_ rest are.2

opening_step : (k : ℕ) → next Content (symbol_kind (opening_mark k)) ≡ Tag
opening_step k = rw (symbol_kind-opening_mark k) refl

closing_step : (mode : Mode) (k : ℕ) → next mode (symbol_kind (closing_mark k)) ≡ Content
closing_step mode k = rw (symbol_kind-closing_mark k) refl

element_ends : (names : List (List ℕ)) (k : ℕ) (as_ : List Attribute) (content : List ℕ) → AreAttributes names as_ → mode_after Content (element_word k as_ content []) ≡ Content
element_ends names k as_ content are =
    ap (λ (m : Mode). mode_after m (attributes_word as_ (content ++ closing_mark k ∷ []))) (opening_step k)
    ∙ attributes_end names as_ (content ++ closing_mark k ∷ []) are
    ∙ mode_after-append Tag content (closing_mark k ∷ [])
    ∙ closing_step (mode_after Tag content) k

pub written-line_feed : (names : List (List ℕ)) → written names Content (10 ∷ []) ≡ codes "\n"
unfolding symbol_kind
written-line_feed names = refl

-- after the root LF is a character of content
pub xml_chars-element_word : (names : List (List ℕ)) (k : ℕ) (as_ : List Attribute) (content : List ℕ) → AreAttributes names as_ → written names Content (element_word k as_ content [] ++ 10 ∷ []) ≡ xml_chars names (element_word k as_ content [])
xml_chars-element_word names k as_ content are =
    let word = element_word k as_ content [] in
    written-append names Content word (10 ∷ []) ∙ ap (λ (z : List ℕ). written names Content word ++ z) (ap (λ (m : Mode). written names m (10 ∷ [])) (element_ends names k as_ content are) ∙ written-line_feed names)
