-- The two grammars of a well-formed sheet are sound.
use Rattle.std.proofs.Common.{◌≡◌, ◌∙◌, ◌<◌, sym, subst, inl, inr, ℕ}
use Rattle.xs_class.specs.declared.side.Side.{Side}
use Rattle.xs_class.specs.declared.side.Side.TheVariants.{Text, Xml}
use Rattle.xs_sheet.specs.declared.sheet.Sheet.{Sheet}
use Rattle.xs_sheet.specs.Grammar.{HaveRegexes}
use Rattle.xs_gram.specs.Grammar.{Grammar}
use Rattle.xs_gram.specs.Sound.{IsBuilt, IsSound, IsProductive, DerivesItself}
use Rattle.xs_pair.specs.declared.ill.IllRule.TheVariants.{EmptyClass, Normal, Unproductive, Loop}
use Rattle.xs_pair.specs.Grammars.{Pair, IsGramOf}
use Rattle.xs_pair.specs.Sound.{AreGrammarsOf, IsSoundPair}
use Rattle.xs_wf.specs.Units.{AreFine}
use Rattle.xs_wf.specs.Passing.{AllGive}
use Rattle.xs_wf.proofs.Members.{term_members as full_terms, skip_members as full_skips, has_normals}

pub have_regexes : (s : Sheet) (p : Pair) → AreGrammarsOf s p → HaveRegexes s.units
have_regexes s p are = are.bytes.2.regexes

sound_side : (s : Sheet) (p : Pair) (side : Side) (g : Grammar) → HaveRegexes s.units → IsGramOf s p.names side g → IsBuilt g → AreFine EmptyClass s.units → ((n : ℕ) → n < g.nons → IsProductive g n) → ((n : ℕ) → DerivesItself g n → ⊥) → IsSound g
sound_side s p side g have of built full words straight = record {
  built = built;
  term_members = full_terms s p.names side g have full of;
  skip_members = full_skips s p.names side g have full of;
  productive = words;
  straight = straight;
}

pub sound_pair : (s : Sheet) (p : Pair) → AreGrammarsOf s p → AllGive s p → IsSoundPair p
sound_pair s p are give =
    let have : HaveRegexes s.units = have_regexes s p are in
    let nons : p.xml.nons ≡ p.text.nons = are.of.xml.nons ∙ sym are.of.text.nons in
    record {
      text = sound_side s p Text p.text have are.of.text are.text (give EmptyClass) (λ n lt. (give Unproductive n lt).0) (λ n loops. give Loop n (inl loops));
      xml = sound_side s p Xml p.xml have are.of.xml are.xml (give EmptyClass) (λ n lt. (give Unproductive n (subst (λ k. n < k) nons lt)).1) (λ n loops. give Loop n (inr loops));
      text_normals = has_normals s p.names Text p.text have (give Normal) are.of.text;
      xml_normals = has_normals s p.names Xml p.xml have (give Normal) are.of.xml;
      same = are.trees;
      starts = are.of.text.start ∙ sym are.of.xml.start;
    }
