-- Elements, as they are written.
use Rattle.std.proofs.Common.{◌≡◌, ◌⊎◌, inl, inr, ℕ, ◌<◌, List, [], ◌∷◌, ◌++◌, length, append_assoc, Option, Some, true, codes, refl, sym, ◌∙◌, ap, subst}
use Rattle.xs_class.specs.Marks.{attr_end, opening_mark, attribute_mark, closing_mark}
use Rattle.xs_class.specs.Ordered.{IsOrdered}
use Rattle.xs_xml_laws.specs.Piece.{Piece, start_tag, empty_tag, end_tag, spelt, spelt_attributes, is_piece, is_tag}
use Rattle.xs_xml_laws.specs.Legal.{closed, spelt_all, are_pieces, Spot, inside, passed, all_passed}
use Rattle.xs_xml_laws.specs.Reads.{symbols, all_symbols, opening, closing}
use Rattle.xs_xml_out.specs.declared.mode.Mode.TheVariants.{Content, Tag}
use Rattle.xs_xml_out.specs.Balanced.{Attribute, attributes_word, element_word, AreAttributes, IsAscending, IsContent, nothing, text, element}
use Rattle.xs_xml_out.specs.Written.{name_at, written}
use Rattle.xs_xml_out.specs.Laws.{AreNames}
use Rattle.xs_xml_out.proofs.SymbolKinds.{symbol_kind-char, symbol_kind-opening_mark, symbol_kind-closing_mark}
use Rattle.xs_xml_out.proofs.Places.{place_of-name_at}
use Rattle.xs_xml_out.proofs.Attributes.{tag_attributes, name_at-is_name, written-attributes, attributes_fit, attributes_distinct, attributes_in_order, attributes_give}
use Rattle.xs_xml_out.proofs.Content.{IsSpelt, spelt_nothing, spelt_text}
use Rattle.xs_xml_out.proofs.Calm.{are_calm-append}
use Rattle.xs_class.proofs.Truth.{both_true}
use Rattle.xs_class.proofs.Words.{same_self}
use Rattle.xs_xml_laws.proofs.More.{pieces_append, passed_append}
use Rattle.xs_xml_laws.proofs.Greatest.{spelt_append}

attributes_word-append : (as_ : List Attribute) (y x : List ℕ) → attributes_word as_ y ++ x ≡ attributes_word as_ (y ++ x)
attributes_word-append [] y x = refl
attributes_word-append (a ∷ as_) y x = ap (λ (z : List ℕ). attribute_mark a.name ∷ z) (append_assoc a.value (attr_end ∷ attributes_word as_ y) x ∙ ap (λ (z : List ℕ). a.value ++ attr_end ∷ z) (attributes_word-append as_ y x))

pub element_word-append : (k : ℕ) (as_ : List Attribute) (w v x : List ℕ) → element_word k as_ w v ++ x ≡ element_word k as_ w (v ++ x)
element_word-append k as_ w v x = ap (λ (z : List ℕ). opening_mark k ∷ z) (attributes_word-append as_ (w ++ closing_mark k ∷ v) x ∙ ap (λ (z : List ℕ). attributes_word as_ z) (append_assoc w (closing_mark k ∷ v) x))

-- the start tag of what follows is ended first
abbrev pub EndsTag : List (List ℕ) → List ℕ → Type 0
EndsTag names w = (x : List ℕ) → written names Tag (w ++ x) ≡ 62 ∷ written names Content (w ++ x)

opening_ends : (names : List (List ℕ)) (k : ℕ) (z : List ℕ) → written names Tag (opening_mark k ∷ z) ≡ 62 ∷ written names Content (opening_mark k ∷ z)
opening_ends names k z = rw (symbol_kind-opening_mark k) refl

pub content_ends : (names : List (List ℕ)) (w : List ℕ) → IsContent names w → (w ≡ []) ⊎ EndsTag names w
content_ends names w nothing = inl refl
content_ends names w (text c v is rest) = inr (λ x. rw (symbol_kind-char c is) refl)
content_ends names w (element k as_ content rest whole below are ascend inner on e) = inr (λ x. subst (λ (z : List ℕ). written names Tag (z ++ x) ≡ 62 ∷ written names Content (z ++ x)) (sym e) (opening_ends names k (attributes_word as_ (content ++ closing_mark k ∷ rest) ++ x)))

-- an element of name k with these attributes
module _ (names : List (List ℕ)) (ordered : IsOrdered names) (are_names : AreNames names) (k : ℕ) (as_ : List Attribute) (below : k < length names) (are : AreAttributes names as_) (ascend : IsAscending as_) where
  pub tag_fits : is_tag (name_at names k) (tag_attributes names as_) [] ≡ true
  tag_fits = rw (name_at-is_name names ordered are_names k below, attributes_fit names ordered are_names as_ are, attributes_distinct names ordered are_names as_ ascend are) refl

  opening_is : opening names (name_at names k) ≡ opening_mark k
  opening_is = rw (place_of-name_at names ordered k below) refl

  closing_is : closing names (name_at names k) ≡ closing_mark k
  closing_is = rw (place_of-name_at names ordered k below) refl

  tag_written : (y : List ℕ) → written names Content (opening_mark k ∷ attributes_word as_ y) ≡ 60 ∷ (name_at names k ++ spelt_attributes (tag_attributes names as_) (written names Tag y))
  tag_written y = rw (symbol_kind-opening_mark k) (ap (λ (z : List ℕ). 60 ∷ (name_at names k ++ z)) (written-attributes names as_ y are))

  close_empty : (y : List ℕ) → written names Tag (closing_mark k ∷ y) ≡ 47 ∷ 62 ∷ written names Content y
  close_empty y = rw (symbol_kind-closing_mark k) refl

  close_full : (y : List ℕ) → written names Content (closing_mark k ∷ y) ≡ 60 ∷ 47 ∷ (name_at names k ++ 62 ∷ written names Content y)
  close_full y = rw (symbol_kind-closing_mark k) (ap (λ (z : List ℕ). 60 ∷ 47 ∷ z) (append_assoc (name_at names k) (codes ">") (written names Content y)))

  start_gives : (s : Spot) (y : List ℕ) → symbols names s (start_tag (name_at names k) (tag_attributes names as_) []) ++ y ≡ opening_mark k ∷ attributes_word as_ y
  start_gives s y = rw (opening_is, attributes_in_order names ordered are_names as_ ascend are) (ap (λ (z : List ℕ). opening_mark k ∷ z) (attributes_give names ordered are_names as_ y are))

  empty_gives : (s : Spot) (y : List ℕ) → symbols names s (empty_tag (name_at names k) (tag_attributes names as_) []) ++ y ≡ opening_mark k ∷ attributes_word as_ (closing_mark k ∷ y)
  empty_gives s y = rw (opening_is, closing_is, attributes_in_order names ordered are_names as_ ascend are) (ap (λ (z : List ℕ). opening_mark k ∷ z) (append_assoc _ (closing_mark k ∷ []) y ∙ attributes_give names ordered are_names as_ (closing_mark k ∷ y) are))

  pub end_fits : is_piece (end_tag (name_at names k) []) ≡ true
  end_fits = rw (name_at-is_name names ordered are_names k below) refl

  pub end_passes : (ms : List (List ℕ)) → passed (inside (name_at names k) ms) (end_tag (name_at names k) []) ≡ Some (closed ms)
  end_passes ms = rw (same_self (name_at names k)) refl

  -- an empty tag, and what stands after it
  pub empty_spells : (v x rest : List ℕ) → written names Content (v ++ x) ≡ rest → written names Content (element_word k as_ [] v ++ x) ≡ spelt (empty_tag (name_at names k) (tag_attributes names as_) []) rest
  empty_spells v x rest again = ap (λ (z : List ℕ). written names Content z) (element_word-append k as_ [] v x) ∙ tag_written (closing_mark k ∷ (v ++ x)) ∙ ap (λ (z : List ℕ). 60 ∷ (name_at names k ++ spelt_attributes (tag_attributes names as_) z)) (close_empty (v ++ x) ∙ ap (λ (z : List ℕ). 47 ∷ 62 ∷ z) again)

  pub empty_all : (v : List ℕ) (qs : List Piece) (s t : Spot) (y : List ℕ) → passed s (empty_tag (name_at names k) (tag_attributes names as_) []) ≡ Some t → all_symbols names (Some t) qs ≡ v ++ y → all_symbols names (Some s) (empty_tag (name_at names k) (tag_attributes names as_) [] ∷ qs) ≡ element_word k as_ [] v ++ y
  empty_all v qs s t y go again = ap (λ (z : Option Spot). symbols names s (empty_tag (name_at names k) (tag_attributes names as_) []) ++ all_symbols names z qs) go ∙ ap (λ (z : List ℕ). symbols names s (empty_tag (name_at names k) (tag_attributes names as_) []) ++ z) again ∙ empty_gives s (v ++ y) ∙ sym (element_word-append k as_ [] v y)

  spelt_empty : (v : List ℕ) → IsSpelt names v → IsSpelt names (element_word k as_ [] v)
  spelt_empty v d = record {
    pieces = empty_tag (name_at names k) (tag_attributes names as_) [] ∷ d.pieces;
    spells = λ x. empty_spells v x (spelt_all d.pieces (written names Content x)) (d.spells x);
    each = both_true (is_tag (name_at names k) (tag_attributes names as_) []) (are_pieces d.pieces) tag_fits d.each;
    calm = d.calm;
    passes = λ m ms. d.passes m ms;
    gives = λ m ms more. empty_all v (d.pieces ++ more) (inside m ms) (inside m ms) (all_symbols names (Some (inside m ms)) more) refl (d.gives m ms more);
  }

  -- a start tag, content, an end tag, and what stands after it
  pub full_spells : (w v x : List ℕ) (ps qs : List Piece) (rest : List ℕ) → EndsTag names w → ((y : List ℕ) → written names Content (w ++ y) ≡ spelt_all ps (written names Content y)) → written names Content (v ++ x) ≡ spelt_all qs rest → written names Content (element_word k as_ w v ++ x) ≡ spelt_all (start_tag (name_at names k) (tag_attributes names as_) [] ∷ (ps ++ end_tag (name_at names k) [] ∷ qs)) rest
  full_spells w v x ps qs rest ends inner again =
      ap (λ (z : List ℕ). written names Content z) (element_word-append k as_ w v x)
      ∙ tag_written (w ++ closing_mark k ∷ (v ++ x))
      ∙ ap (λ (z : List ℕ). 60 ∷ (name_at names k ++ spelt_attributes (tag_attributes names as_) z)) (ends (closing_mark k ∷ (v ++ x)) ∙ ap (λ (z : List ℕ). 62 ∷ z) (inner (closing_mark k ∷ (v ++ x)) ∙ ap (λ (z : List ℕ). spelt_all ps z) (close_full (v ++ x) ∙ ap (λ (z : List ℕ). 60 ∷ 47 ∷ (name_at names k ++ 62 ∷ z)) again)))
      ∙ ap (λ (z : List ℕ). spelt (start_tag (name_at names k) (tag_attributes names as_) []) z) (sym (spelt_append ps (end_tag (name_at names k) [] ∷ qs) rest))

  pub full_all : (w v : List ℕ) (ps qs : List Piece) (s t r : Spot) (y : List ℕ) → passed s (start_tag (name_at names k) (tag_attributes names as_) []) ≡ Some t → passed t (end_tag (name_at names k) []) ≡ Some r → ((more : List Piece) → all_symbols names (Some t) (ps ++ more) ≡ w ++ all_symbols names (Some t) more) → all_symbols names (Some r) qs ≡ v ++ y → all_symbols names (Some s) (start_tag (name_at names k) (tag_attributes names as_) [] ∷ (ps ++ end_tag (name_at names k) [] ∷ qs)) ≡ element_word k as_ w v ++ y
  full_all w v ps qs s t r y go go_on inner again =
      ap (λ (z : Option Spot). symbols names s (start_tag (name_at names k) (tag_attributes names as_) []) ++ all_symbols names z (ps ++ end_tag (name_at names k) [] ∷ qs)) go
      ∙ ap (λ (z : List ℕ). symbols names s (start_tag (name_at names k) (tag_attributes names as_) []) ++ z) (inner (end_tag (name_at names k) [] ∷ qs) ∙ ap (λ (z : List ℕ). w ++ z) (ap (λ (z : Option Spot). closing names (name_at names k) ∷ all_symbols names z qs) go_on ∙ ap (λ (z : List ℕ). closing names (name_at names k) ∷ z) again ∙ ap (λ (z : ℕ). z ∷ (v ++ y)) closing_is))
      ∙ start_gives s (w ++ closing_mark k ∷ (v ++ y))
      ∙ sym (element_word-append k as_ w v y)

  pub full_passes : (ps qs : List Piece) (ms : List (List ℕ)) (t : Option Spot) → all_passed (Some (inside (name_at names k) ms)) ps ≡ Some (inside (name_at names k) ms) → all_passed (Some (closed ms)) qs ≡ t → all_passed (Some (inside (name_at names k) ms)) (ps ++ end_tag (name_at names k) [] ∷ qs) ≡ t
  full_passes ps qs ms t inner on = passed_append (Some (inside (name_at names k) ms)) ps (end_tag (name_at names k) [] ∷ qs) ∙ ap (λ (z : Option Spot). all_passed z (end_tag (name_at names k) [] ∷ qs)) inner ∙ ap (λ (z : Option Spot). all_passed z qs) (end_passes ms) ∙ on

  pub full_each : (ps qs : List Piece) → are_pieces ps ≡ true → are_pieces qs ≡ true → are_pieces (start_tag (name_at names k) (tag_attributes names as_) [] ∷ (ps ++ end_tag (name_at names k) [] ∷ qs)) ≡ true
  full_each ps qs inner on = both_true (is_tag (name_at names k) (tag_attributes names as_) []) (are_pieces (ps ++ end_tag (name_at names k) [] ∷ qs)) tag_fits (pieces_append ps (end_tag (name_at names k) [] ∷ qs) inner (both_true (is_piece (end_tag (name_at names k) [])) (are_pieces qs) end_fits on))

  spelt_full : (w v : List ℕ) → IsSpelt names w → IsSpelt names v → EndsTag names w → IsSpelt names (element_word k as_ w v)
  spelt_full w v i d ends = record {
    pieces = start_tag (name_at names k) (tag_attributes names as_) [] ∷ (i.pieces ++ end_tag (name_at names k) [] ∷ d.pieces);
    spells = λ x. full_spells w v x i.pieces d.pieces (written names Content x) ends i.spells (d.spells x);
    each = full_each i.pieces d.pieces i.each d.each;
    calm = are_calm-append i.pieces (end_tag (name_at names k) [] ∷ d.pieces) i.calm d.calm;
    passes = λ m ms. full_passes i.pieces d.pieces (m ∷ ms) (Some (inside m ms)) (i.passes (name_at names k) (m ∷ ms)) (d.passes m ms);
    gives = λ m ms more. ap (λ (z : List Piece). all_symbols names (Some (inside m ms)) (start_tag (name_at names k) (tag_attributes names as_) [] ∷ z)) (append_assoc i.pieces (end_tag (name_at names k) [] ∷ d.pieces) more) ∙ full_all w v i.pieces (d.pieces ++ more) (inside m ms) (inside (name_at names k) (m ∷ ms)) (inside m ms) (all_symbols names (Some (inside m ms)) more) refl (end_passes (m ∷ ms)) (i.gives (name_at names k) (m ∷ ms)) (d.gives m ms more);
  }

  spelt_element : (w v : List ℕ) → IsSpelt names w → IsSpelt names v → (w ≡ []) ⊎ EndsTag names w → IsSpelt names (element_word k as_ w v)
  spelt_element w v i d (inl none) = subst (λ (z : List ℕ). IsSpelt names (element_word k as_ z v)) (sym none) (spelt_empty v d)
  spelt_element w v i d (inr ends) = spelt_full w v i d ends

-- by recursion on the content
pub spelt_content : (names : List (List ℕ)) → IsOrdered names → AreNames names → (w : List ℕ) → IsContent names w → IsSpelt names w
spelt_content names ordered are_names w nothing = spelt_nothing names
spelt_content names ordered are_names w (text c v is rest) = spelt_text names c v is (spelt_content names ordered are_names v rest)
spelt_content names ordered are_names w (element k as_ content rest whole below are ascend inner on e) = subst (λ (z : List ℕ). IsSpelt names z) (sym e) (spelt_element names ordered are_names k as_ below are ascend content rest (spelt_content names ordered are_names content inner) (spelt_content names ordered are_names rest on) (content_ends names content inner))
