-- The pieces of an XML document, of nine kinds: what each consists of, how it is spelt, and which are allowed.
-- The text of a piece p is `spelt p []`; a list of characters begins with p where it is `spelt p rest` and `is_piece p`.
use Rattle.std.specs.Prelude.{ℕ, ◌+◌, ◌*◌, List, [], ◌∷◌, ◌++◌, map, codes, None, Some, if◌then◌else◌, ◌==◌, ◌&&◌, ◌||◌, not, nat_le, Bool, true, false, is_some}
use Rattle.std.specs.declared.option.Option.{Option}
pub use Rattle.xs_class.specs.Words.{same}
use Rattle.xs_xml_laws.specs.Tables.{is_char, is_name_char, is_white, is_digit, is_hex, is_quote}
use Rattle.xs_class.specs.Tables.{is_name_start}
use Rattle.xs_class.specs.Words.{hex_value}

-- every character is of the class
abbrev pub all_of : (ℕ → Bool) → List ℕ → Bool
all_of f [] = true
all_of f (c ∷ cs) = f c && all_of f cs

-- the second list begins with the first
abbrev pub starts : List ℕ → List ℕ → Bool
starts [] cs = true
starts (p ∷ ps) [] = false
starts (p ∷ ps) (c ∷ cs) = p == c && starts ps cs

-- the first list stands somewhere in the second
abbrev pub holds : List ℕ → List ℕ → Bool
holds p [] = starts p []
holds p (c ∷ cs) = starts p (c ∷ cs) || holds p cs

-- the list does not end with c
abbrev pub ends_not : ℕ → List ℕ → Bool
ends_not c [] = true
ends_not c (d ∷ []) = not (d == c)
ends_not c (d ∷ e ∷ es) = ends_not c (e ∷ es)

-- an ASCII letter in lower case
abbrev pub lower : ℕ → ℕ
lower c = if nat_le 65 c && nat_le c 90 then c + 32 else c

-- Name (XML 1.0, section 2.3)
abbrev pub is_name : List ℕ → Bool
is_name [] = false
is_name (c ∷ cs) = is_name_start c && all_of is_name_char cs

-- white space, one or more
abbrev pub is_gap : List ℕ → Bool
is_gap [] = false
is_gap (c ∷ cs) = is_white c && all_of is_white cs

-- the number of the digits after those that make so_far
abbrev pub number : ℕ → ℕ → List ℕ → ℕ
number base so_far [] = so_far
number base so_far (c ∷ cs) = number base (so_far * base + hex_value c) cs

abbrev pub when : Bool → ℕ → Option ℕ
when true c = Some c
when false c = None

-- what stands between &# and ; where its number is a Char; no digits have the number 0, which is none
abbrev pub numbered : List ℕ → Option ℕ
numbered [] = None
numbered (c ∷ cs) = if c == 120 then when (all_of is_hex cs && is_char (number 16 0 cs)) (number 16 0 cs) else when (all_of is_digit (c ∷ cs) && is_char (number 10 0 (c ∷ cs))) (number 10 0 (c ∷ cs))

-- the character of a name in a table
abbrev pub named : List ℕ → List (List ℕ × ℕ) → Option ℕ
named body [] = None
named body (e ∷ es) = if same body e.0 then Some e.1 else named body es

-- the character of a reference, by what stands between & and ; (XML 1.0, sections 4.1 and 4.6)
unfoldable pub ref_char : List ℕ → Option ℕ
ref_char [] = None
ref_char (c ∷ cs) = if c == 35 then numbered cs else named (c ∷ cs) ((codes "lt", 60) ∷ (codes "gt", 62) ∷ (codes "amp", 38) ∷ (codes "apos", 39) ∷ (codes "quot", 34) ∷ [])

-- a value is characters as they are written and references, which have what stands between & and ;
pub data Bit : Type 0 where
  plain : ℕ → Bit
  ref : List ℕ → Bit

-- white space, a name, white space on both sides of =, the quote, and the value (XML 1.0, section 3.1)
pub record Attribute : Type 0 where
  pub gap : List ℕ
  pub name : List ℕ
  pub left : List ℕ
  pub right : List ℕ
  pub quote : ℕ
  pub value : List Bit

-- a Char other than <, & and the quote, or a reference that has a character
abbrev pub is_bit : ℕ → Bit → Bool
is_bit quote (plain c) = is_char c && not ((c == 60 || c == 38) || c == quote)
is_bit quote (ref body) = is_some (ref_char body)

abbrev pub are_bits : ℕ → List Bit → Bool
are_bits quote [] = true
are_bits quote (b ∷ bs) = is_bit quote b && are_bits quote bs

abbrev pub is_attribute : Attribute → Bool
is_attribute a = is_gap a.gap && (is_name a.name && (all_of is_white a.left && (all_of is_white a.right && (is_quote a.quote && are_bits a.quote a.value))))

abbrev pub are_attributes : List Attribute → Bool
are_attributes [] = true
are_attributes (a ∷ as_) = is_attribute a && are_attributes as_

-- a name is one of these
abbrev pub is_one_of : List ℕ → List (List ℕ) → Bool
is_one_of n [] = false
is_one_of n (m ∷ ms) = same n m || is_one_of n ms

-- no name stands twice
abbrev pub all_differ : List (List ℕ) → Bool
all_differ [] = true
all_differ (n ∷ ns) = not (is_one_of n ns) && all_differ ns

-- the same of the names of attributes
abbrev pub among : List ℕ → List Attribute → Bool
among n as_ = is_one_of n (map (λ a. a.name) as_)

abbrev pub distinct : List Attribute → Bool
distinct as_ = all_differ (map (λ a. a.name) as_)

-- the last part of a declaration and of a tag is the white space before its end;
-- an instruction's body is all between its name and its end; CR LF is the one character line_end
pub data Piece : Type 0 where
  declaration : List Attribute → List ℕ → Piece
  character : ℕ → Piece
  line_end : Piece
  reference : List ℕ → Piece
  start_tag : List ℕ → List Attribute → List ℕ → Piece
  empty_tag : List ℕ → List Attribute → List ℕ → Piece
  end_tag : List ℕ → List ℕ → Piece
  comment : List ℕ → Piece
  instruction : List ℕ → List ℕ → Piece
  cdata : List ℕ → Piece

-- a spelling, and the rest after it
abbrev pub spelt_bit : Bit → List ℕ → List ℕ
spelt_bit (plain c) rest = c ∷ rest
spelt_bit (ref body) rest = 38 ∷ (body ++ 59 ∷ rest)

abbrev pub spelt_bits : List Bit → List ℕ → List ℕ
spelt_bits [] rest = rest
spelt_bits (b ∷ bs) rest = spelt_bit b (spelt_bits bs rest)

abbrev pub spelt_attribute : Attribute → List ℕ → List ℕ
spelt_attribute a rest = a.gap ++ (a.name ++ (a.left ++ 61 ∷ (a.right ++ a.quote ∷ spelt_bits a.value (a.quote ∷ rest))))

abbrev pub spelt_attributes : List Attribute → List ℕ → List ℕ
spelt_attributes [] rest = rest
spelt_attributes (a ∷ as_) rest = spelt_attribute a (spelt_attributes as_ rest)

abbrev pub spelt : Piece → List ℕ → List ℕ
spelt (declaration as_ gap) rest = codes "<?xml" ++ spelt_attributes as_ (gap ++ (codes "?>" ++ rest))
spelt (character c) rest = c ∷ rest
spelt line_end rest = 13 ∷ 10 ∷ rest
spelt (reference body) rest = 38 ∷ (body ++ 59 ∷ rest)
spelt (start_tag n as_ gap) rest = 60 ∷ (n ++ spelt_attributes as_ (gap ++ 62 ∷ rest))
spelt (empty_tag n as_ gap) rest = 60 ∷ (n ++ spelt_attributes as_ (gap ++ 47 ∷ 62 ∷ rest))
spelt (end_tag n gap) rest = 60 ∷ 47 ∷ (n ++ (gap ++ 62 ∷ rest))
spelt (comment body) rest = codes "<!--" ++ (body ++ (codes "-->" ++ rest))
spelt (instruction n body) rest = 60 ∷ 63 ∷ (n ++ (body ++ 63 ∷ 62 ∷ rest))
spelt (cdata body) rest = codes "<![CDATA[" ++ (body ++ (codes "]]>" ++ rest))

-- a value without references is this text
abbrev pub is_text : List ℕ → List Bit → Bool
is_text [] [] = true
is_text (c ∷ cs) (plain d ∷ bs) = c == d && is_text cs bs
is_text cs bs = false

abbrev pub lower_bits : List Bit → List Bit
lower_bits [] = []
lower_bits (plain c ∷ bs) = plain (lower c) ∷ lower_bits bs
lower_bits (ref body ∷ bs) = ref body ∷ lower_bits bs

-- the declaration (XML 1.0, section 2.8) gives version 1.0, then perhaps encoding UTF-8 in any case,
-- then perhaps standalone
abbrev pub is_version : Attribute → Bool
is_version a = same a.name (codes "version") && is_text (codes "1.0") a.value

abbrev pub is_encoding : Attribute → Bool
is_encoding a = same a.name (codes "encoding") && is_text (codes "utf-8") (lower_bits a.value)

abbrev pub is_standalone : Attribute → Bool
is_standalone a = same a.name (codes "standalone") && (is_text (codes "yes") a.value || is_text (codes "no") a.value)

abbrev pub are_settings : List Attribute → Bool
are_settings (v ∷ []) = is_version v
are_settings (v ∷ a ∷ []) = is_version v && (is_encoding a || is_standalone a)
are_settings (v ∷ e ∷ s ∷ []) = is_version v && (is_encoding e && is_standalone s)
are_settings as_ = false

-- nothing, or what begins with white space
abbrev pub is_apart : List ℕ → Bool
is_apart [] = true
is_apart (c ∷ cs) = is_white c

-- what a start tag and an empty tag ask
abbrev pub is_tag : List ℕ → List Attribute → List ℕ → Bool
is_tag n as_ gap = is_name n && (are_attributes as_ && (distinct as_ && all_of is_white gap))

-- a declaration, character, line end, reference, start tag, empty tag, end tag, comment, instruction or CDATA
-- section of XML 1.0 (sections 2.4 to 2.8, 3.1 and 4.1)
abbrev pub is_piece : Piece → Bool
is_piece (declaration as_ gap) = are_attributes as_ && (are_settings as_ && all_of is_white gap)
is_piece (character c) = is_char c && not (c == 60 || c == 38)
is_piece line_end = true
is_piece (reference body) = is_some (ref_char body)
is_piece (start_tag n as_ gap) = is_tag n as_ gap
is_piece (empty_tag n as_ gap) = is_tag n as_ gap
is_piece (end_tag n gap) = is_name n && all_of is_white gap
is_piece (comment body) = all_of is_char body && (not (holds (codes "--") body) && ends_not 45 body)
is_piece (instruction n body) = is_name n && (not (same (map lower n) (codes "xml")) && (is_apart body && (all_of is_char body && not (holds (codes "?>") body))))
is_piece (cdata body) = all_of is_char body && not (holds (codes "]]>") body)
