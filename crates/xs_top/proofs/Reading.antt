-- What is read of bytes, and what written bytes read as.
use Rattle.std.proofs.Common.{◌≡◌, ◌∙◌, ℕ, List, [], ◌∷◌, Some, sym, subst, ap, slice_get, refl, ◌==◌, if◌then◌else◌}
use Rattle.xs_class.specs.declared.side.Side.{Side}
use Rattle.xs_class.specs.declared.side.Side.TheVariants.{Text, Xml}
use Rattle.xs_class.specs.Ordered.{IsOrdered}
use Rattle.xs_chars.specs.declared.form.Form.TheVariants.{AsIs}
use Rattle.xs_chars.specs.Text.{text_of, without_mark}
use Rattle.xs_chars.specs.Laws.{IsReadBack}
use Rattle.xs_xml_laws.specs.Reads.{Reads}
use Rattle.xs_xml_out.specs.Written.{xml_bytes, xml_chars}
use Rattle.xs_xml_out.specs.Laws.{IsReadBack as XmlIsReadBack, IsDecoded, WrittenIsUtf8, BeginsWithTag, AreNames}
use Rattle.xs_form.specs.declared.document.XmlFault.{XmlFault}
use Rattle.xs_form.specs.declared.document.XmlFault.TheVariants as F
use Rattle.xs_form.specs.Fault.{IsFault}
use Rattle.xs_pair.specs.Grammars.{Pair}
use Rattle.xs_outline.specs.declared.fault.OutlineFault.{OutlineFault}
use Rattle.xs_outline.specs.declared.fault.OutlineFault.TheVariants as L
use Rattle.xs_outline.specs.Outline.{IsBadAt}
use Rattle.xs_outline.specs.Refusal.{IsRefusal}
use Rattle.xs_table_out.specs.Documents.{document_bytes}
use Rattle.xs_top.specs.Documents.{IsDocument, IsNoDocument, CanWrite, AreReadBack}
use Rattle.xs_top.specs.Answers.{IsNoOutline}
use Rattle.xs_top.specs.Stops.{StopsBy, stop_of_xml, stop_of_outline}

-- characters that are read, and why they are no XML
pub xml_stops : (names : List (List ℕ)) (bytes doc : List ℕ) (e : XmlFault) → IsDocument Text AsIs [] bytes doc → IsFault names doc e → StopsBy (IsNoDocument names Xml bytes) (stop_of_xml e)
xml_stops names bytes doc (F.NotXml at) read fault =
    let broken : IsFault names (text_of bytes AsIs) (F.NotXml at) = subst (λ (d : List ℕ). IsFault names d (F.NotXml at)) read.word fault in
    (refl, record { utf8 = read.utf8; none = broken.0; broken = broken.1 })
xml_stops names bytes doc F.Memory read fault = tt

-- characters that are read, and why they are no outline
pub outline_stops : (p : Pair) (bytes doc : List ℕ) (e : OutlineFault) → IsDocument Text AsIs [] bytes doc → IsRefusal p doc e → StopsBy (IsNoOutline p bytes) (stop_of_outline e)
outline_stops p bytes doc (L.OutlineBad line) read bad = record { utf8 = read.utf8; bad = subst (λ (d : List ℕ). IsBadAt p d line) read.word bad }
outline_stops p bytes doc L.Memory read bad = tt

same_number : (a b : ℕ) → Some a ≡ Some b → a ≡ b
same_number a b e = cc

-- characters that begin with < have no mark before them
no_mark : (cs : List ℕ) → slice_get cs 0 ≡ Some 60 → without_mark cs ≡ cs
no_mark [] is = cc
no_mark (c ∷ cs) is = subst (λ x. (if x == 65279 then cs else x ∷ cs) ≡ x ∷ cs) (sym (same_number c 60 is)) refl

-- documents that are written
pub documents_read : IsReadBack → XmlIsReadBack → IsDecoded → WrittenIsUtf8 → BeginsWithTag → (names : List (List ℕ)) → IsOrdered names → AreReadBack names
documents_read text back decoded utf8 begins names ordered Text word are can =
    let read = text word can in
    record { utf8 = read.0; word = sym read.1 }
documents_read text back decoded utf8 begins names ordered Xml word are can =
    let characters : text_of (xml_bytes names word) AsIs ≡ xml_chars names word = ap without_mark (decoded names word are can) ∙ no_mark (xml_chars names word) (begins names word can) in
    record { utf8 = utf8 names word are can; word = subst (λ (d : List ℕ). Reads names d word) (sym characters) (back names word ordered are can) }

-- and the one that is written for a word
pub document_reads : (names : List (List ℕ)) → AreReadBack names → (side : Side) (bytes word : List ℕ) → AreNames names → CanWrite names side word → bytes ≡ document_bytes side names word → IsDocument side AsIs names bytes word
document_reads names law side bytes word are can is = subst (λ (b : List ℕ). IsDocument side AsIs names b word) (sym is) (law side word are can)
