-- The symbols of a document, and the place where a document breaks.
-- A document is the list of its characters, without a mark U+FEFF that stood in front of them.
use Rattle.std.specs.Prelude.{◌≡◌, ℕ, ◌+◌, ◌≤◌, List, [], ◌∷◌, ◌++◌, length, encode_utf8_all, None, Some, if◌then◌else◌, ◌==◌, ◌&&◌, Bool, false, unwrap_or}
use Rattle.std.specs.declared.option.Option.{Option}
use Rattle.std.specs.declared.cmp.Ordering.{Ordering}
use Rattle.std.specs.Ordering.{nat_cmp, match_ordering}
use Rattle.std.specs.Cmp.Lexicographic.{slice_cmp}
use Rattle.xs_class.specs.Marks.{attr_end, strange, opening_mark, attribute_mark, closing_mark}
use Rattle.xs_class.specs.Ordered.{place_of}
use Rattle.xs_xml_laws.specs.Tables.{is_white}
use Rattle.xs_xml_laws.specs.Piece.{Piece, character, line_end, reference, start_tag, empty_tag, end_tag, cdata, Attribute, Bit, plain, ref, ref_char}
use Rattle.xs_xml_laws.specs.Legal.{Spot, ahead, inside, beyond, passed, IsLegal}

-- a mark of the name at this place, or the one symbol for all marks of a name that the list does not have
abbrev pub marked : (ℕ → ℕ) → Option ℕ → ℕ
marked mark None = strange
marked mark (Some k) = mark k

abbrev pub opening : List (List ℕ) → List ℕ → ℕ
opening names n = marked opening_mark (place_of names n)

abbrev pub attribute : List (List ℕ) → List ℕ → ℕ
attribute names n = marked attribute_mark (place_of names n)

abbrev pub closing : List (List ℕ) → List ℕ → ℕ
closing names n = marked closing_mark (place_of names n)

-- CR LF and CR give LF (XML 1.0, section 2.11); cr says that a CR stands before
abbrev pub lines : Bool → List ℕ → List ℕ
lines cr [] = []
lines cr (c ∷ cs) = if c == 10 && cr then lines false cs else ((if c == 13 then 10 else c) ∷ lines (c == 13) cs)

-- in a value CR LF, CR, LF and tab as they are written give a space each (section 3.3.3), and a reference gives its
-- character; cr says that a CR as it is written stands before
abbrev pub value : Bool → List Bit → List ℕ
value cr [] = []
value cr (plain c ∷ bs) = if c == 10 && cr then value false bs else ((if is_white c then 32 else c) ∷ value (c == 13) bs)
value cr (ref body ∷ bs) = unwrap_or (ref_char body) 0 ∷ value false bs

-- an element put to its place in a list in ascending order of keys, which are lists of bytes
abbrev pub placed_by : {A : Type 0} → (A → List ℕ) → A → List A → List A
placed_by key a [] = a ∷ []
placed_by key a (b ∷ bs) = match_ordering (slice_cmp nat_cmp (key a) (key b)) (a ∷ b ∷ bs) (a ∷ b ∷ bs) (b ∷ placed_by key a bs)

abbrev pub ordered_by : {A : Type 0} → (A → List ℕ) → List A → List A
ordered_by key [] = []
ordered_by key (a ∷ as_) = placed_by key a (ordered_by key as_)

-- attributes in ascending order of the UTF-8 bytes of their names
abbrev pub name_order : List ℕ → List ℕ → Ordering
name_order m n = slice_cmp nat_cmp (encode_utf8_all m) (encode_utf8_all n)

abbrev pub name_key : Attribute → List ℕ
name_key a = encode_utf8_all a.name

abbrev pub placed : Attribute → List Attribute → List Attribute
placed a as_ = placed_by name_key a as_

abbrev pub in_order : List Attribute → List Attribute
in_order as_ = ordered_by name_key as_

-- each attribute gives its mark, its value and the mark that ends the value
abbrev pub attribute_symbols : List (List ℕ) → List Attribute → List ℕ
attribute_symbols names [] = []
attribute_symbols names (a ∷ as_) = attribute names a.name ∷ (value false a.value ++ attr_end ∷ attribute_symbols names as_)

-- a character gives something only inside the root element
abbrev pub char_symbols : Spot → List ℕ → List ℕ
char_symbols (inside m ms) w = w
char_symbols s w = []

-- the symbols of a piece that stands at a spot
abbrev pub symbols : List (List ℕ) → Spot → Piece → List ℕ
symbols names s (character c) = char_symbols s (if c == 13 then 10 ∷ [] else c ∷ [])
symbols names s line_end = char_symbols s (10 ∷ [])
symbols names s (reference body) = unwrap_or (ref_char body) 0 ∷ []
symbols names s (start_tag n as_ gap) = opening names n ∷ attribute_symbols names (in_order as_)
symbols names s (empty_tag n as_ gap) = opening names n ∷ (attribute_symbols names (in_order as_) ++ closing names n ∷ [])
symbols names s (end_tag n gap) = closing names n ∷ []
symbols names s (cdata body) = lines false body
symbols names s p = []

abbrev pub all_symbols : List (List ℕ) → Option Spot → List Piece → List ℕ
all_symbols names s [] = []
all_symbols names None (p ∷ ps) = []
all_symbols names (Some s) (p ∷ ps) = symbols names s p ++ all_symbols names (passed s p) ps

-- a legal list spells all of the document, its root element has ended, and its symbols are w
pub record Reads (names : List (List ℕ)) (doc w : List ℕ) : Type 0 where
  pub pieces : List Piece
  pub legal : IsLegal doc pieces [] beyond
  pub gives : w ≡ all_symbols names (Some ahead) pieces

-- k is the greatest total length of a legal list that begins the document, in characters, of which CR LF is two
pub record IsBrokenAt (doc : List ℕ) (k : ℕ) : Type 0 where
  pub pieces : List Piece
  pub rest : List ℕ
  pub at : Spot
  pub legal : IsLegal doc pieces rest at
  pub is : k + length rest ≡ length doc
  pub greatest : (ps : List Piece) (r : List ℕ) (s : Spot) → IsLegal doc ps r s → length doc ≤ k + length r
