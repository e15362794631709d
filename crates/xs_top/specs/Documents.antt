-- Documents of either side: their words, and their bytes.
use Rattle.std.specs.Prelude.{◌≡◌, ℕ, List}
use Rattle.std.specs.Str.{IsUtf8}
use Rattle.xs_class.specs.declared.side.Side.{Side}
use Rattle.xs_class.specs.declared.side.Side.TheVariants.{Text, Xml}
use Rattle.xs_chars.specs.declared.form.Form.{Form}
use Rattle.xs_chars.specs.declared.form.Form.TheVariants.{AsIs}
use Rattle.xs_chars.specs.Text.{AreCharacters, IsUtf8BadAt, text_of}
use Rattle.xs_xml_laws.specs.Reads.{Reads, IsBrokenAt}
use Rattle.xs_xml_out.specs.Balanced.{IsBalanced}
use Rattle.xs_xml_out.specs.Laws.{AreNames}
use Rattle.xs_table_out.specs.Documents.{document_bytes}
use Rattle.xs_talk.specs.declared.outcome.Outcome.{Outcome}
use Rattle.xs_talk.specs.declared.outcome.Outcome.TheVariants.{NotUtf8, NotXml}

-- the word of a document: the characters of a text in a form, or the symbols of XML as it is
abbrev pub IsWordOf : Side → Form → List (List ℕ) → List ℕ → List ℕ → Type 0
IsWordOf Text form names bytes w = w ≡ text_of bytes form
IsWordOf Xml form names bytes w = Reads names (text_of bytes AsIs) w

-- the bytes are UTF-8, and a document with this word
pub record IsDocument (side : Side) (form : Form) (names : List (List ℕ)) (bytes w : List ℕ) : Type 0 where
  pub utf8 : IsUtf8 bytes
  pub word : IsWordOf side form names bytes w

-- the bytes are UTF-8 and no XML, and this is the place where it breaks
pub record IsNoXml (names : List (List ℕ)) (bytes : List ℕ) (at : ℕ) : Type 0 where
  pub utf8 : IsUtf8 bytes
  pub none : (w : List ℕ) → Reads names (text_of bytes AsIs) w → ⊥
  pub broken : IsBrokenAt (text_of bytes AsIs) at

-- why the bytes are no text, or no document of a side
abbrev pub IsNoText : List ℕ → Outcome → Type 0
IsNoText bytes (NotUtf8 at) = IsUtf8BadAt bytes at
IsNoText bytes other = ⊥

abbrev pub IsNoDocument : List (List ℕ) → Side → List ℕ → Outcome → Type 0
IsNoDocument names side bytes (NotUtf8 at) = IsUtf8BadAt bytes at
IsNoDocument names side bytes (NotXml at) = (side ≡ Xml) × IsNoXml names bytes at
IsNoDocument names side bytes other = ⊥

-- a word that can be written as a document of a side: of characters, or balanced
abbrev pub CanWrite : List (List ℕ) → Side → List ℕ → Type 0
CanWrite names Text w = AreCharacters w
CanWrite names Xml w = IsBalanced names w

-- what is written for a word, over these names, reads as that word
abbrev pub AreReadBack : List (List ℕ) → Type 0
AreReadBack names = (side : Side) (word : List ℕ) → AreNames names → CanWrite names side word → IsDocument side AsIs names (document_bytes side names word) word
