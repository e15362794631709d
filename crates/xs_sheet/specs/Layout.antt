-- The layout of a written sheet: the words of each line, and how each is spelt.
use Rattle.std.specs.Prelude.{ℕ, ◌/◌, ◌%◌, Bool, true, false, List, [], ◌∷◌, ◌++◌, map, codes, None, Some, ◌==◌, ◌||◌, nat_lt, if◌then◌else◌, encode_utf8_all}
use Rattle.std.specs.declared.option.Option.{Option}
use Rattle.std.specs.Char.{digit_char}
use Rattle.xs_lex.specs.declared.kind.Kind.{Kind}
use Rattle.xs_lex.specs.declared.kind.Kind.TheVariants.{Plain, Qual, Quoted, Pattern, Colon, Equals, SquareIn, SquareOut, Angle, AngleSlash, AngleEnd, SlashEnd, End, Bad}
use Rattle.xs_lex.specs.Units.{QuotedUnit, plain, escaped, coded, spelt_quoted}
use Rattle.xs_sheet.specs.declared.item.Item.{Item}
use Rattle.xs_sheet.specs.declared.item.Item.TheVariants.{Fixed, Named, Skip}
use Rattle.xs_sheet.specs.declared.x_item.Attr.{Attr}
use Rattle.xs_sheet.specs.declared.sheet.Sheet.{Sheet}
use Rattle.xs_sheet.specs.Outline.{Content, nothing, item, element, UnitOutline, terminal, ignorable, production, fence, Outline, outline_of}
use Rattle.xs_sheet.specs.Grammar.{version_word}

-- a number below 256 in lower-case hexadecimal digits, without leading zeros
unfoldable pub hex_digits : ℕ → List ℕ
hex_digits n = if nat_lt n 16 then digit_char n ∷ [] else digit_char (n / 16) ∷ digit_char (n % 16) ∷ []

-- the sign after a backslash that stands for a character: \" \\ \n \t \r
unfoldable pub escape_sign : ℕ → Option ℕ
escape_sign c = if c == 34 then Some 34 else (if c == 92 then Some 92 else (if c == 10 then Some 110 else (if c == 9 then Some 116 else (if c == 13 then Some 114 else None))))

-- a character that a quoted string has by its number: below U+0020, and U+007F
unfoldable pub is_control : ℕ → Bool
is_control c = nat_lt c 32 || c == 127

-- how a character is written in a quoted string
abbrev pub by_sign : Option ℕ → ℕ → QuotedUnit
by_sign (Some sign) c = escaped sign
by_sign None c = if is_control c then coded (hex_digits c) else plain c

abbrev pub unit_of : ℕ → QuotedUnit
unit_of c = by_sign (escape_sign c) c

-- a quoted string that stands for these characters
abbrev pub quoted : List ℕ → List ℕ
quoted text = 34 ∷ spelt_quoted (map unit_of text) (34 ∷ [])

-- a token as it is written: a name or a word, a string by what it stands for, a pattern by what is between its slashes,
-- a sign
pub data Written : Type 0 where
  as_is : List ℕ → Written
  in_quotes : List ℕ → Written
  in_slashes : List ℕ → Written
  sign : Kind → Written

abbrev pub sign_spelling : Kind → List ℕ
sign_spelling Colon = 58 ∷ []
sign_spelling Equals = 61 ∷ []
sign_spelling SquareIn = 91 ∷ []
sign_spelling SquareOut = 93 ∷ []
sign_spelling Angle = 60 ∷ []
sign_spelling AngleSlash = 60 ∷ 47 ∷ []
sign_spelling AngleEnd = 62 ∷ []
sign_spelling SlashEnd = 47 ∷ 62 ∷ []
sign_spelling Plain = []
sign_spelling Qual = []
sign_spelling Quoted = []
sign_spelling Pattern = []
sign_spelling End = []
sign_spelling Bad = []

abbrev pub spelling : Written → List ℕ
spelling (as_is word) = word
spelling (in_quotes text) = quoted text
spelling (in_slashes inner) = 47 ∷ (inner ++ 47 ∷ [])
spelling (sign kind) = sign_spelling kind

-- "..", [ NAME ] or [ NAME SLOT ]
abbrev pub item_words : Item → List Written
item_words (Fixed text) = in_quotes text ∷ []
item_words (Skip name) = sign SquareIn ∷ as_is name ∷ sign SquareOut ∷ []
item_words (Named name slot) = sign SquareIn ∷ as_is name ∷ as_is slot ∷ sign SquareOut ∷ []

abbrev pub items_words : List Item → List Written
items_words [] = []
items_words (i ∷ is) = item_words i ++ items_words is

-- NAME = and the items
abbrev pub attr_words : Attr → List Written
attr_words a = as_is a.name ∷ sign Equals ∷ items_words a.value

abbrev pub attrs_words : List Attr → List Written
attrs_words [] = []
attrs_words (a ∷ as_) = attr_words a ++ attrs_words as_

abbrev pub holds_nothing : Content → Bool
holds_nothing nothing = true
holds_nothing (item before i) = false
holds_nothing (element before tag attrs inner) = false

-- what ends an element's first tag, and what follows it: />, or > and the content and </ TAG >
abbrev pub after_attrs : List ℕ → Bool → List Written → List Written
after_attrs tag true inner = sign SlashEnd ∷ []
after_attrs tag false inner = sign AngleEnd ∷ (inner ++ sign AngleSlash ∷ as_is tag ∷ sign AngleEnd ∷ [])

-- an element that holds nothing is one tag, and any other has both its tags
abbrev pub element_words : List ℕ → List Attr → Bool → List Written → List Written
element_words tag attrs empty inner = sign Angle ∷ as_is tag ∷ (attrs_words attrs ++ after_attrs tag empty inner)

abbrev pub content_words : Content → List Written
content_words nothing = []
content_words (item before i) = content_words before ++ item_words i
content_words (element before tag attrs inner) = content_words before ++ element_words tag attrs (holds_nothing inner) (content_words inner)

abbrev pub unit_words : UnitOutline → List Written
unit_words (terminal name inner line) = as_is (codes "terminal") ∷ as_is name ∷ sign Equals ∷ in_slashes inner ∷ []
unit_words (ignorable name inner normal line) = as_is (codes "ignorable") ∷ as_is name ∷ sign Equals ∷ in_slashes inner ∷ in_quotes normal ∷ []
unit_words (production name left right line) = as_is name ∷ sign Colon ∷ (items_words left ++ sign Equals ∷ content_words right)
unit_words (fence left right line) = as_is (codes "fence") ∷ in_quotes left ∷ in_quotes right ∷ []

-- each word after one space
abbrev pub spaced : List Written → List ℕ
spaced [] = []
spaced (w ∷ ws) = 32 ∷ (spelling w ++ spaced ws)

-- the words of a line, with one space between two, and LF
abbrev pub line_text : List Written → List ℕ
line_text [] = 10 ∷ []
line_text (w ∷ ws) = spelling w ++ (spaced ws ++ 10 ∷ [])

abbrev pub lines_text : List (List Written) → List ℕ
lines_text [] = []
lines_text (l ∷ ls) = line_text l ++ lines_text ls

-- the version word, `start` and the name, and each unit, on lines of their own
abbrev pub sheet_lines : Outline → List (List Written)
sheet_lines o = (as_is (version_word o.version) ∷ []) ∷ (as_is (codes "start") ∷ as_is o.start ∷ []) ∷ map unit_words o.units

-- the bytes that a sheet is written as
abbrev pub sheet_bytes : Sheet → List ℕ
sheet_bytes s = encode_utf8_all (lines_text (sheet_lines (outline_of s)))
