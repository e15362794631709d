-- What the code writes for one symbol.
use Rattle.std.specs.Prelude.{ℕ, ◌<◌, ◌≤◌, List, Bool, true, false, length, encode_utf8}
use Rattle.std.specs.Char.{IsScalar}
use Rattle.std.specs.List.{All}
use Rattle.xs_xml_out.specs.declared.kind.SymbolKind.{SymbolKind}
use Rattle.xs_xml_out.specs.declared.kind.SymbolKind.TheVariants.{Char, Opening, Attribute, Closing}
use Rattle.xs_xml_out.specs.declared.mode.Mode.{Mode}
use Rattle.xs_xml_out.specs.declared.mode.Mode.TheVariants.{Content, Value}
use Rattle.xs_xml_out.specs.declared.spelling.Body.{Body}
use Rattle.xs_xml_out.specs.declared.spelling.Body.TheVariants.{Single, Text}
use Rattle.xs_xml_out.specs.Written.{symbol_kind}

-- a character is a scalar value, and a name is in the list
abbrev pub IsKnown : List (List ℕ) → SymbolKind → Type 0
IsKnown names (Char c) = IsScalar c
IsKnown names (Opening k) = k < length names
IsKnown names (Attribute k) = k < length names
IsKnown names (Closing k) = k < length names
IsKnown names kind = Unit {0}

-- the symbol can be written
abbrev pub IsKnownSymbol : List (List ℕ) → ℕ → Type 0
IsKnownSymbol names symbol = IsKnown names (symbol_kind symbol)

-- each symbol of the word can be written
abbrev pub AreKnown : List (List ℕ) → List ℕ → Type 0
AreKnown names word = All (IsKnownSymbol names) word

-- the bytes of a body
abbrev pub body_bytes : Body → List ℕ
body_bytes (Single c) = encode_utf8 c
body_bytes (Text text) = text.now

-- a body that is a text has at most as many bytes as &quot;
abbrev pub IsShort : Body → Type 0
IsShort (Single c) = Unit {0}
IsShort (Text text) = length text.now ≤ 6

-- where the characters of a value or of content stand
abbrev pub mode_of : Bool → Mode
mode_of true = Value
mode_of false = Content
