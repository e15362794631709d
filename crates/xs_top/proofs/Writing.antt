-- The print of a tree that fits can be written.
use Rattle.std.proofs.Common.{◌≡◌, ◌∙◌, ℕ, List, ap, refl, sym, subst}
use Rattle.xs_class.specs.declared.side.Side.{Side}
use Rattle.xs_class.specs.declared.side.Side.TheVariants.{Text, Xml}
use Rattle.xs_gram.specs.Common.{Common, TreeFits, print}
use Rattle.xs_gram.specs.Derivations.{yield, normal}
use Rattle.xs_gram.specs.Languages.{HasTree}
use Rattle.xs_gram.specs.Laws.{PrintedHasTree, PrintsNormal, HasNumberedSlots}
use Rattle.xs_pair.specs.Grammars.{Pair, grammar_of}
use Rattle.xs_pair.specs.Sound.{IsSoundPair}
use Rattle.xs_writing_laws.specs.Laws.{CanBeWritten}
use Rattle.xs_turn.specs.Turned.{FitsBoth, IsTranslated}
use Rattle.xs_chars.specs.declared.form.Form.{Form}
use Rattle.xs_chars.specs.declared.form.Form.TheVariants.{AsIs}
use Rattle.xs_table_out.specs.Documents.{document_bytes}
use Rattle.xs_top.specs.Documents.{IsDocument, CanWrite, AreReadBack}
use Rattle.xs_top.specs.Answers.{IsWrittenTree, IsTurnedInto}
use Rattle.xs_top.proofs.Reading.{document_reads}

-- on either side it has that tree
pub printed_back : PrintedHasTree → (p : Pair) (t : Common) → IsSoundPair p → FitsBoth p t → (side : Side) → HasTree (grammar_of p side) (print (grammar_of p side) t) t
printed_back law p t sound fits Text = law p.text t sound.text.built.slots sound.text_normals (fits Text)
printed_back law p t sound fits Xml = law p.xml t sound.xml.built.slots sound.xml_normals (fits Xml)

can_write : (p : Pair) (t : Common) (w : List ℕ) → CanBeWritten p → (side : Side) → HasTree (grammar_of p side) w t → CanWrite p.names side w
can_write p t w can Text has = can.text w (has.0, has.1)
can_write p t w can Xml has = can.xml w (has.0, has.1)

pub can_write_print : PrintedHasTree → (p : Pair) (t : Common) (w : List ℕ) → IsSoundPair p → CanBeWritten p → FitsBoth p t → (side : Side) → w ≡ print (grammar_of p side) t → CanWrite p.names side w
can_write_print law p t w sound can fits side is = subst (λ (v : List ℕ). CanWrite p.names side v) (sym is) (can_write p t (print (grammar_of p side) t) can side (printed_back law p t sound fits side))

-- what was written for the print of a tree that fits
pub written_tree : PrintedHasTree → (p : Pair) → IsSoundPair p → (to : Side) (tree : Common) → FitsBoth p tree → (names : List (List ℕ)) (word bytes : List ℕ) → names ≡ p.names → word ≡ print (grammar_of p to) tree → bytes ≡ document_bytes to names word → IsDocument to AsIs names bytes word → IsWrittenTree p to tree bytes
written_tree law p sound to tree fits names word bytes names_are printed is reads = record {
  is = is ∙ ap (λ (ns : List (List ℕ)). document_bytes to ns word) names_are ∙ ap (λ (w : List ℕ). document_bytes to p.names w) printed;
  reads = subst (λ (w : List ℕ). IsDocument to AsIs p.names bytes w) printed (subst (λ (ns : List (List ℕ)). IsDocument to AsIs ns bytes word) names_are reads);
  back = printed_back law p tree sound fits to;
}

slots_numbered : (p : Pair) → IsSoundPair p → (side : Side) → HasNumberedSlots (grammar_of p side)
slots_numbered p sound Text = sound.text.built.slots
slots_numbered p sound Xml = sound.xml.built.slots

-- a document of which a derivation's tree was written
pub turned_by : PrintsNormal → (p : Pair) → IsSoundPair p → (from to : Side) (form : Form) (bytes answer word : List ℕ) (tree : Common) → IsDocument from form p.names bytes word → HasTree (grammar_of p from) word tree → IsWrittenTree p to tree answer → IsTurnedInto p from to form bytes tree answer
turned_by law p sound from to form bytes answer word tree document has written = record {
  word = word;
  document = document;
  derivation = has.0;
  derives = has.1;
  tree_is = has.2;
  normal = subst (λ (t : Common). print (grammar_of p from) t ≡ yield (normal (grammar_of p from) has.0)) has.2 (law (grammar_of p from) (grammar_of p from).start has.0 (slots_numbered p sound from) has.1.0);
  written = written;
}

-- a document of which a translated word was written
pub rewritten : PrintedHasTree → PrintsNormal → (p : Pair) → IsSoundPair p → CanBeWritten p → AreReadBack p.names → (from to : Side) (form : Form) (bytes answer doc word : List ℕ) → IsDocument from form p.names bytes doc → IsTranslated p from to doc word → answer ≡ document_bytes to p.names word → (tree : Common) × IsTurnedInto p from to form bytes tree answer
rewritten has_tree prints p sound can law from to form bytes answer doc word document translated is =
    let fits = translated.fits sound.same sound.starts in
    let reads = document_reads p.names law to answer word can.names (can_write_print has_tree p translated.tree word sound can fits to translated.printed) is in
    let is_written = written_tree has_tree p sound to translated.tree fits p.names word answer refl translated.printed is reads in
    (translated.tree, turned_by prints p sound from to form bytes answer doc translated.tree document translated.has is_written)

-- a tree that fits on the text side fits on either
pub fits_both : (p : Pair) (t : Common) → IsSoundPair p → TreeFits p.text p.text.start t → FitsBoth p t
fits_both p t sound fits Text = fits
fits_both p t sound fits Xml = subst (λ n. TreeFits p.xml n t) sound.starts ((sound.same p.text.start t).0 fits)
