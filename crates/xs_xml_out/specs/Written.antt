-- The normal writing of a balanced word.
use Rattle.std.specs.Prelude.{◌≡◌, ℕ, zero, suc, ◌-◌, ◌/◌, ◌%◌, List, [], ◌∷◌, ◌++◌, codes, encode_utf8_all, slice_index_or, nat_lt, if◌then◌else◌, ◌==◌}
use Rattle.xs_class.specs.Marks.{attr_end, strange, opening_mark}
use Rattle.xs_xml_out.specs.declared.kind.SymbolKind.{SymbolKind}
use Rattle.xs_xml_out.specs.declared.kind.SymbolKind.TheVariants.{Char, ValueEnd, Strange, Opening, Attribute, Closing}
use Rattle.xs_xml_out.specs.declared.mode.Mode.{Mode}
use Rattle.xs_xml_out.specs.declared.mode.Mode.TheVariants.{Content, Tag, Value}

-- the marks of name k are three numbers, one after the other
abbrev pub kind_of_name : ℕ → ℕ → SymbolKind
kind_of_name zero k = Opening k
kind_of_name (suc zero) k = Attribute k
kind_of_name (suc (suc more)) k = Closing k

-- what a symbol is
unfoldable pub symbol_kind : ℕ → SymbolKind
symbol_kind symbol = if nat_lt symbol attr_end then Char symbol else (if symbol == attr_end then ValueEnd else (if symbol == strange then Strange else kind_of_name ((symbol - opening_mark 0) % 3) ((symbol - opening_mark 0) / 3)))

-- the characters of name k
abbrev pub name_at : List (List ℕ) → ℕ → List ℕ
name_at names k = slice_index_or names k []

-- a character of content: &, <, > and CR are written as references
abbrev pub content_char : ℕ → List ℕ
content_char c = if c == 38 then codes "&amp;" else (if c == 60 then codes "&lt;" else (if c == 62 then codes "&gt;" else (if c == 13 then codes "&#xD;" else c ∷ [])))

-- a character of a value: the quote, tab and LF too
abbrev pub value_char : ℕ → List ℕ
value_char c = if c == 34 then codes "&quot;" else (if c == 9 then codes "&#x9;" else (if c == 10 then codes "&#xA;" else content_char c))

-- what is written for a symbol; the first one after the attributes of a start tag also ends the tag
abbrev pub put : List (List ℕ) → Mode → SymbolKind → List ℕ
put names Content (Char c) = content_char c
put names Tag (Char c) = codes ">" ++ content_char c
put names Value (Char c) = value_char c
put names Content (Opening k) = codes "<" ++ name_at names k
put names Tag (Opening k) = codes "><" ++ name_at names k
put names Tag (Attribute k) = codes " " ++ name_at names k ++ codes "=\""
put names Value ValueEnd = codes "\""
put names Content (Closing k) = codes "</" ++ name_at names k ++ codes ">"
put names Tag (Closing k) = codes "/>"
put names mode kind = []

-- where the next symbol stands
abbrev pub next : Mode → SymbolKind → Mode
next Value (Char c) = Value
next mode (Char c) = Content
next mode (Opening k) = Tag
next mode (Attribute k) = Value
next mode ValueEnd = Tag
next mode (Closing k) = Content
next mode Strange = mode

-- where the symbol after a word stands
abbrev pub mode_after : Mode → List ℕ → Mode
mode_after mode [] = mode
mode_after mode (symbol ∷ word) = mode_after (next mode (symbol_kind symbol)) word

-- the writing of a word that begins in this mode
abbrev pub written : List (List ℕ) → Mode → List ℕ → List ℕ
written names mode [] = []
written names mode (symbol ∷ word) = put names mode (symbol_kind symbol) ++ written names (next mode (symbol_kind symbol)) word

-- bytes go on with what is written for a word from a mode on, after which this mode holds
pub record IsAppended (names : List (List ℕ)) (mode : Mode) (word old new : List ℕ) (after : Mode) : Type 0 where
  pub bytes : new ≡ old ++ encode_utf8_all (written names mode word)
  pub mode_is : after ≡ mode_after mode word

-- the bytes of a word from a mode on, and of the LF that ends the document
abbrev pub rest_bytes : List (List ℕ) → Mode → List ℕ → List ℕ
rest_bytes names mode word = encode_utf8_all (written names mode word ++ codes "\n")

-- the root element, and one LF
abbrev pub xml_chars : List (List ℕ) → List ℕ → List ℕ
xml_chars names word = written names Content word ++ codes "\n"

-- the document's bytes
abbrev pub xml_bytes : List (List ℕ) → List ℕ → List ℕ
xml_bytes names word = encode_utf8_all (xml_chars names word)
