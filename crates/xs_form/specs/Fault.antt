-- Why a document has no symbols.
use Rattle.std.specs.Prelude.{◌≡◌, ℕ, ◌+◌, List}
use Rattle.xs_xml_laws.specs.Reads.{Reads, IsBrokenAt}
use Rattle.xs_form.specs.declared.document.XmlFault.{XmlFault}
use Rattle.xs_form.specs.declared.document.XmlFault.TheVariants.{NotXml, Memory}

-- no word is read, and the place is where the document breaks; nothing is said of want of memory
abbrev pub IsFault : List (List ℕ) → List ℕ → XmlFault → Type 0
IsFault names doc (NotXml at) = ((w : List ℕ) → Reads names doc w → ⊥) × IsBrokenAt doc at
IsFault names doc Memory = Unit {0}

-- the place is where the last of the document's characters begin
abbrev pub IsAt : XmlFault → ℕ → ℕ → Type 0
IsAt (NotXml at) all last = at + last ≡ all
IsAt Memory all last = ⊥
