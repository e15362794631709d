-- The law that XML is read back.
use Rattle.std.specs.Prelude.{◌≡◌, ℕ, List, Some, true, slice_get}
use Rattle.std.specs.List.{All}
use Rattle.std.specs.Str.{IsUtf8, chars}
use Rattle.xs_class.specs.Ordered.{IsOrdered}
use Rattle.xs_xml_laws.specs.Piece.{is_name}
use Rattle.xs_xml_laws.specs.Reads.{Reads}
use Rattle.xs_xml_out.specs.Balanced.{IsBalanced}
use Rattle.xs_xml_out.specs.Written.{xml_chars, xml_bytes}

-- each of the names is a Name of XML
abbrev pub AreNames : List (List ℕ) → Type 0
AreNames names = All (λ name. is_name name ≡ true) names

-- what is written for a balanced word reads as that word
abbrev pub IsReadBack : Type 0
IsReadBack = (names : List (List ℕ)) (word : List ℕ) → IsOrdered names → AreNames names → IsBalanced names word → Reads names (xml_chars names word) word

-- the characters of the bytes that are written are those that were to be written
abbrev pub IsDecoded : Type 0
IsDecoded = (names : List (List ℕ)) (word : List ℕ) → AreNames names → IsBalanced names word → chars (xml_bytes names word) ≡ xml_chars names word

-- the bytes that are written are UTF-8
abbrev pub WrittenIsUtf8 : Type 0
WrittenIsUtf8 = (names : List (List ℕ)) (word : List ℕ) → AreNames names → IsBalanced names word → IsUtf8 (xml_bytes names word)

-- what is written begins with <, so with no mark U+FEFF that a reader would drop
abbrev pub BeginsWithTag : Type 0
BeginsWithTag = (names : List (List ℕ)) (word : List ℕ) → IsBalanced names word → slice_get (xml_chars names word) 0 ≡ Some 60
