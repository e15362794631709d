-- The bytes of a document.
use Rattle.std.specs.Prelude.{ℕ, List}
use Rattle.xs_class.specs.declared.side.Side.{Side}
use Rattle.xs_class.specs.declared.side.Side.TheVariants.{Text, Xml}
use Rattle.xs_chars.specs.Text.{text_bytes}
use Rattle.xs_xml_out.specs.Written.{xml_bytes}

-- the bytes of a word on a side
abbrev pub document_bytes : Side → List (List ℕ) → List ℕ → List ℕ
document_bytes Text names w = text_bytes w
document_bytes Xml names w = xml_bytes names w
