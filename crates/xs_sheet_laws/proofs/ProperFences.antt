-- The fences of an upgrade are proper in the grammars of the sheet.
use Rattle.std.proofs.Common.{◌≡◌, ◌∙◌, [], inl, inr, map, refl}
use Rattle.xs_class.specs.declared.side.Side.{Side}
use Rattle.xs_class.specs.declared.side.Side.TheVariants.{Text, Xml}
use Rattle.xs_gram.specs.declared.parts.GramParts.{GramParts}
use Rattle.xs_gram.specs.declared.parts.Ignorable.{Ignorable as GIgnorable}
use Rattle.xs_gram.specs.declared.parts.RulePart.{RulePart}
use Rattle.xs_gram.specs.declared.parts.SkipPart.{SkipPart}
use Rattle.xs_gram.specs.declared.parts.Terminal.{Terminal as GTerminal}
use Rattle.xs_gram.specs.Building.{HasProperFences, skip_part}
use Rattle.xs_gram.specs.Fences.{AvoidsFences, IsLevel, level_none, spread_items}
use Rattle.xs_gram.specs.Grammar.{Grammar, no_rule, no_terminal, no_ignorable}
use Rattle.xs_gram.specs.Sound.{IsProper}
use Rattle.xs_sheet.specs.declared.sheet.Sheet.{Sheet}
use Rattle.xs_pair.specs.Fences.{FenceFails, AreFences}
use Rattle.xs_pair.specs.Grammars.{Pair, AreTermsOf, AreSkipsOf, ArePartsOf, IsGramOf, IsPairOf}
use Rattle.xs_pair.specs.Verdict.{NoneFails}
use Rattle.xs_pair.proofs.Lists.{each_of_map, each_at}
use Rattle.xs_pair.proofs.TextFences.{text_proper}
use Rattle.xs_pair.proofs.XmlFences.{xml_proper}
use Rattle.xs_sheet_laws.specs.Grammars as G
use Rattle.xs_sheet_laws.proofs.OtherFences.{with_fences}
use Rattle.xs_sheet_laws.proofs.Lined.{AreCharacters}

-- what the grammar was built of
abbrev parts_of : Grammar → GramParts
parts_of g = record { start = g.start; nons = g.nons; rules = g.rules; terms = map (λ (t : GTerminal). t.regex) g.terms; skips = map skip_part g.skips; fences = g.fences }

is_proper : (g : Grammar) → HasProperFences (parts_of g) → IsProper g
is_proper g proper = record {
  once = proper.once;
  terms = λ t lt. each_at (λ (x : GTerminal). AvoidsFences g.fences x.regex) g.terms t no_terminal tt (each_of_map (AvoidsFences g.fences) (λ (x : GTerminal). x.regex) g.terms proper.each_term);
  skips = λ k lt. each_at (λ (x : GIgnorable). AvoidsFences g.fences x.regex) g.skips k no_ignorable tt (each_of_map (λ (x : SkipPart). AvoidsFences g.fences x.regex) skip_part g.skips proper.each_skip);
  level = λ p. each_at (λ (r : RulePart). IsLevel g.fences (spread_items g.fences r.items)) g.rules p no_rule level_none proper.each_rule;
}

-- a grammar like another without its fences is like it with its fences
pub fenced_alike : (g h : Grammar) → G.AreAlike g (with_fences h []) → G.AreAlike (with_fences g h.fences) h
fenced_alike g h alike = record {
  start = alike.start;
  nons = alike.nons;
  rules = alike.rules;
  fences = refl;
  terms = alike.terms;
  skips = alike.skips;
  term_regexes = alike.term_regexes;
  skip_regexes = alike.skip_regexes;
  normals = alike.normals;
}

module _ (t : Sheet) (fine : NoneFails (FenceFails t.units)) (two : t.version ≡ 2) (low : AreCharacters t.units) (q : Pair) (of_t : IsPairOf t q) where
  -- a grammar like that of a side, with its fences in place of its own
  module _ (g h : Grammar) (alike : G.AreAlike g (with_fences h [])) (terms : AreTermsOf t.units (map (λ (x : GTerminal). x.regex) g.terms)) (skips : AreSkipsOf t.units (map skip_part g.skips)) where
    are_parts : (side : Side) → IsGramOf t q.names side h → ArePartsOf t q.names side (parts_of (with_fences g h.fences))
    are_parts side is = record { start = alike.start ∙ is.start; nons = alike.nons ∙ is.nons; rules = alike.rules ∙ is.rules; terms = terms; skips = skips; fences = is.fences }

    pub text_side : IsGramOf t q.names Text h → IsProper (with_fences g h.fences)
    text_side is = by is.fences
      where
        by : AreFences t q.names Text h.fences → IsProper (with_fences g h.fences)
        by (inl (none, all)) = is_proper (with_fences g h.fences) (text_proper t q.names (parts_of (with_fences g h.fences)) (are_parts Text is) none all)
        by (inr (some, all)) = absurd (some fine)

    pub xml_side : IsGramOf t q.names Xml h → IsProper (with_fences g h.fences)
    xml_side is = by is.fences
      where
        by : AreFences t q.names Xml h.fences → IsProper (with_fences g h.fences)
        by (inl (second, all)) = is_proper (with_fences g h.fences) (xml_proper t.units q.names (parts_of (with_fences g h.fences)) low of_t.names (alike.rules ∙ is.rules) terms skips all)
        by (inr (first, all)) = absurd (first two)
