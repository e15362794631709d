-- The words of a sheet's two languages can be written.
use Rattle.std.specs.Prelude.{◌≡◌, ℕ, List, true, Some, slice_get}
use Rattle.xs_chars.specs.Text.{AreCharacters}
use Rattle.xs_xml_laws.specs.Tables.{is_char}
use Rattle.xs_xml_laws.specs.Piece.{all_of}
use Rattle.xs_sheet.specs.declared.item.Item.{Item}
use Rattle.xs_sheet.specs.declared.item.Item.TheVariants.{Fixed, Named, Skip}
use Rattle.xs_sheet.specs.declared.sheet.Sheet.{Sheet}
use Rattle.xs_sheet.specs.Grammar.{IsSheetOf}
use Rattle.xs_gram.specs.Building.{EachOf}
use Rattle.xs_gram.specs.Languages.{InLang}
use Rattle.xs_xml_out.specs.Balanced.{IsBalanced}
use Rattle.xs_xml_out.specs.Laws.{AreNames}
use Rattle.xs_pair.specs.declared.mark.Mark.{Mark}
use Rattle.xs_pair.specs.declared.mark.Mark.TheVariants.{Opening, Attribute, AttributeEnd, Closing, Value, Content}
use Rattle.xs_pair.specs.declared.ill.IllRule.TheVariants.{NoStart, Kind, AttrTwice, RootShape}
use Rattle.xs_pair.specs.declared.production.Rule.{Rule}
use Rattle.xs_pair.specs.Listing.{rules_of}
use Rattle.xs_pair.specs.Verdict.{FailsAt}
use Rattle.xs_pair.specs.Grammars.{Pair, IsPairOf}

-- each is a character of XML
abbrev pub AreChars : List ℕ → Type 0
AreChars w = all_of is_char w ≡ true

-- an item that is a string has characters of XML only
abbrev pub HasChars : Item → Type 0
HasChars (Fixed text) = AreChars text
HasChars (Named name slot) = Unit {0}
HasChars (Skip name) = Unit {0}

abbrev pub IsOfChars : Mark → Type 0
IsOfChars (Opening tag names) = Unit {0}
IsOfChars (Attribute name) = Unit {0}
IsOfChars AttributeEnd = Unit {0}
IsOfChars (Closing tag) = Unit {0}
IsOfChars (Value i) = HasChars i
IsOfChars (Content i) = HasChars i

-- each string on either side of a production has characters of XML only
pub record HasCharStrings (s : Sheet) : Type 0 where
  pub left : (k : ℕ) (r : Rule) → slice_get (rules_of s.units) k ≡ Some r → EachOf IsOfChars r.left
  pub right : (k : ℕ) (r : Rule) → slice_get (rules_of s.units) k ≡ Some r → EachOf IsOfChars r.right

-- The sheet's start names a production, each production of the start is one element, names and slots
-- are of the kinds that their places ask for, no element has an attribute twice, and strings have
-- characters of XML only.
pub record IsWritable (s : Sheet) : Type 0 where
  pub start : (line : ℕ) → FailsAt s NoStart line → ⊥
  pub kinds : (line : ℕ) → FailsAt s Kind line → ⊥
  pub attributes : (line : ℕ) → FailsAt s AttrTwice line → ⊥
  pub root : (line : ℕ) → FailsAt s RootShape line → ⊥
  pub strings : HasCharStrings s

-- a word of the language of texts is one of characters
abbrev pub TextsAreCharacters : Type 0
TextsAreCharacters = (s : Sheet) (p : Pair) → HasCharStrings s → IsPairOf s p → (w : List ℕ) → InLang p.text w → AreCharacters w

-- a word of the language of XML documents is balanced
abbrev pub DocumentsAreBalanced : Type 0
DocumentsAreBalanced = (s : Sheet) (p : Pair) → IsWritable s → IsPairOf s p → (w : List ℕ) → InLang p.xml w → IsBalanced p.names w

-- the names of a sheet's elements and attributes are Names of XML
abbrev pub NamesAreNames : Type 0
NamesAreNames = (bytes : List ℕ) (s : Sheet) (p : Pair) → IsSheetOf bytes s → IsPairOf s p → AreNames p.names

-- a text is a word of characters, an XML document a balanced word of the names, and these are Names
pub record CanBeWritten (p : Pair) : Type 0 where
  pub text : (w : List ℕ) → InLang p.text w → AreCharacters w
  pub xml : (w : List ℕ) → InLang p.xml w → IsBalanced p.names w
  pub names : AreNames p.names

abbrev pub WordsCanBeWritten : Type 0
WordsCanBeWritten = (bytes : List ℕ) (s : Sheet) (p : Pair) → IsSheetOf bytes s → IsWritable s → IsPairOf s p → CanBeWritten p
