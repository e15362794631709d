-- Pairs of grammars that are alike have the same certificates.
use Rattle.std.proofs.Common.{◌∙◌, ℕ, ◌<◌, ◌≤◌, List, length, sym, ap, subst, inl, inr}
use Rattle.std.proofs.lemmas.Bool.{cases_lt}
use Rattle.std.proofs.lemmas.List.{get_or_past}
use Rattle.xs_regex.specs.Links.{AreLinkedAlike}
use Rattle.xs_gram.specs.declared.parts.Terminal.{Terminal}
use Rattle.xs_gram.specs.declared.parts.Ignorable.{Ignorable}
use Rattle.xs_gram.specs.Grammar.{Grammar, term_of, skip_of, no_terminal, no_ignorable}
use Rattle.xs_gram.specs.Sound.{IsBuilt}
use Rattle.xs_pair.specs.Grammars.{Pair}
use Rattle.xs_sheet_laws.specs.Grammars as G
use Rattle.xs_sheet_laws.proofs.Other.{is_with_parts}
use Rattle.xs_sheet_laws.proofs.Alike.{alike_back}
use Rattle.xs_sheet_laws.proofs.Weighed.{KeepsSizes}
use Rattle.xs_cert_lines.specs.Lines.{Lines}
use Rattle.xs_cert_laws.specs.Blocks.{Head}
use Rattle.xs_cert_laws.specs.Certificates.{Half, IsHalf, IsCertificate, Front, nothing, version, in_text, in_xml, IsGoodFront, IsBadAt}
use Rattle.xs_cert_laws.specs.Exact.{IsProof}
use Rattle.xs_cert_laws.specs.Alike.{AlikeHaveSameCertificates}
use Rattle.xs_cert_laws.proofs.Laying.{KeepsLinks}
use Rattle.xs_cert_laws.proofs.Linked.{linked, same_linked}
use Rattle.xs_cert_laws.proofs.Nests.{half_kept}

-- halves of one are halves of the other
abbrev pub KeepsHalves : Grammar → Grammar → Type 0
KeepsHalves g h = (s : Half) (more : List Head) → IsHalf g s more → IsHalf h s more

module _ (g h : Grammar) (alike : G.AreAlike g h) (built : IsBuilt g) (other : IsBuilt h) where
  term_linked : (t : ℕ) → AreLinkedAlike (term_of g t).automaton (term_of h t).automaton
  term_linked t = elim (cases_lt t (length g.terms)) [
    | inl lt ↦ linked (alike.term_regexes t) (built.automata.terms t lt) (other.automata.terms t (subst (λ (n : ℕ). t < n) alike.terms lt))
    | inr le ↦ same_linked (ap (λ (x : Terminal). x.automaton) (get_or_past g.terms t no_terminal le ∙ sym (get_or_past h.terms t no_terminal (subst (λ (n : ℕ). n ≤ t) alike.terms le))))
  ]

  skip_linked : (k : ℕ) → AreLinkedAlike (skip_of g k).automaton (skip_of h k).automaton
  skip_linked k = elim (cases_lt k (length g.skips)) [
    | inl lt ↦ linked (alike.skip_regexes k) (built.automata.skips k lt) (other.automata.skips k (subst (λ (n : ℕ). k < n) alike.skips lt))
    | inr le ↦ same_linked (ap (λ (x : Ignorable). x.automaton) (get_or_past g.skips k no_ignorable le ∙ sym (get_or_past h.skips k no_ignorable (subst (λ (n : ℕ). n ≤ k) alike.skips le))))
  ]

  halves_kept : KeepsHalves g h
  halves_kept =
      let is = is_with_parts g h alike.start alike.nons alike.rules alike.fences in
      let links : KeepsLinks g h = record { terms = term_linked; skips = skip_linked } in
      let sizes : KeepsSizes g h = record { terms = λ t. (alike.term_regexes t).size; skips = λ k. (alike.skip_regexes k).size } in
      subst (λ (z : Grammar). KeepsHalves g z) is (half_kept g h.terms h.skips (subst (λ (z : Grammar). KeepsLinks g z) (sym is) links) (subst (λ (z : Grammar). KeepsSizes g z) (sym is) sizes))

module _ (p q : Pair) (text : KeepsHalves p.text q.text) (xml : KeepsHalves p.xml q.xml) where
  certificate_kept : (bytes : List ℕ) → IsCertificate p bytes → IsCertificate q bytes
  certificate_kept bytes c = record { text = c.text; xml = c.xml; is_text = text c.text _ c.is_text; is_xml = xml c.xml _ c.is_xml; is = c.is }

  proof_kept : (bytes : List ℕ) → IsProof p bytes → IsProof q bytes
  unfolding certificate_kept
  proof_kept bytes d = record { is = certificate_kept bytes d.is; text = d.text; xml = d.xml }

  front_kept : {lines : Lines} → Front p lines → Front q lines
  front_kept nothing = nothing
  front_kept version = version
  front_kept (in_text t more half e) = in_text t more (text t more half) e
  front_kept (in_xml t x more whole half e) = in_xml t x more (text t _ whole) (xml x more half) e

  good_kept : (bytes : List ℕ) (k : ℕ) → IsGoodFront p bytes k → IsGoodFront q bytes k
  good_kept bytes k d = record { lines = d.lines; rest = d.rest; front = front_kept d.front; count = d.count; begins = d.begins }

bad_kept : (p q : Pair) → KeepsHalves p.text q.text → KeepsHalves p.xml q.xml → KeepsHalves q.text p.text → KeepsHalves q.xml p.xml → (bytes : List ℕ) (line : ℕ) → IsBadAt p bytes line → IsBadAt q bytes line
bad_kept p q text xml text_back xml_back bytes line d = record {
  none = λ c. d.none (certificate_kept q p text_back xml_back bytes c);
  before = d.before;
  is = d.is;
  good = good_kept p q text xml bytes d.before d.good;
  greatest = λ k good. d.greatest k (good_kept q p text_back xml_back bytes k good);
}

pub same_certificates : AlikeHaveSameCertificates
same_certificates p q alike built other =
    let text = halves_kept p.text q.text alike.text built.text other.text in
    let xml = halves_kept p.xml q.xml alike.xml built.xml other.xml in
    let text_back = halves_kept q.text p.text (alike_back p.text q.text alike.text) other.text built.text in
    let xml_back = halves_kept q.xml p.xml (alike_back p.xml q.xml alike.xml) other.xml built.xml in record {
      certificate = λ bytes. (certificate_kept p q text xml bytes, certificate_kept q p text_back xml_back bytes);
      bad = λ bytes line. (bad_kept p q text xml text_back xml_back bytes line, bad_kept q p text_back xml_back text xml bytes line);
      proof = λ bytes. (proof_kept p q text xml bytes, proof_kept q p text_back xml_back bytes);
    }
