-- The words of a sheet's terminals and ignorables are characters of XML.
use Rattle.std.proofs.Common.{ℕ, List, [], ◌∷◌, map, refl, sym, subst, inl, inr}
use Rattle.xs_regex.specs.declared.regex.Regex.{Regex}
use Rattle.xs_regex.specs.declared.regex.Regex.TheVariants.{Empty, Set, Then', Or', Star', Times'}
use Rattle.xs_regex.specs.Matches.{Matches, Each, joined}
use Rattle.xs_regex.specs.Meaning.{Means, IsPatternOf}
use Rattle.xs_regex.specs.Pattern.{Tree, nothing, class, both, either, any, times}
use Rattle.xs_sheet.specs.declared.unit.Unit.{Unit as SheetUnit}
use Rattle.xs_sheet.specs.declared.unit.Unit.TheVariants.{Terminal, Ignorable, Production, Fence}
use Rattle.xs_sheet.specs.declared.sheet.Sheet.{Sheet}
use Rattle.xs_class.specs.declared.side.Side.{Side}
use Rattle.xs_gram.specs.declared.parts.SkipPart.{SkipPart}
use Rattle.xs_gram.specs.declared.parts.Terminal.{Terminal as GTerminal}
use Rattle.xs_gram.specs.declared.parts.Ignorable.{Ignorable as GIgnorable}
use Rattle.xs_gram.specs.Grammar.{Grammar, IsTermWord, IsSkipWord, no_terminal, no_ignorable}
use Rattle.xs_gram.specs.Building.{EachOf, skip_part}
use Rattle.xs_xml_laws.specs.Tables.{is_char}
use Rattle.xs_pair.specs.Grammars.{AreTermsOf, AreSkipsOf, IsGramOf}
use Rattle.xs_writing_laws.specs.Laws.{AreChars}
use Rattle.xs_pair.proofs.Lists.{each_of_map, each_at}
use Rattle.xs_writing_laws.proofs.Characters.{chars_append, char_tested}
use Rattle.xs_class.proofs.Truth.{both_true}

all_words : (P : List ℕ → Type 0) → ((w : List ℕ) → P w → AreChars w) → (ws : List (List ℕ)) → Each P ws → AreChars (joined ws)
all_words P f [] each = refl
all_words P f (w ∷ ws) each = chars_append w (joined ws) (f w each.0) (all_words P f ws each.1)

-- a regex that means a pattern matches characters of XML only
pub regex_words : (t : Tree) (r : Regex) (w : List ℕ) → Means t r → Matches r w → AreChars w
regex_words nothing Empty w means m = subst AreChars (sym m) refl
regex_words (class sort) (Set ranges) w means m = subst AreChars (sym m.2) (both_true (is_char m.0) _ (char_tested m.0 ((means.1 m.0).0 m.1).0) refl)
regex_words (both t u) (Then' p a q b) w means m = subst AreChars (sym m.2) (chars_append m.0 m.1 (regex_words t a m.0 means.0 m.3) (regex_words u b m.1 means.1 m.4))
regex_words (either t u) (Or' p a q b) w means (inl m) = regex_words t a w means.0 m
regex_words (either t u) (Or' p a q b) w means (inr m) = regex_words u b w means.1 m
regex_words (any t) (Star' p a) w means m = subst AreChars (sym m.1) (all_words (λ v. Matches a v) (λ v at. regex_words t a v means at) m.0 m.2)
regex_words (times t least most) (Times' p a least_of most_of) w means m = subst AreChars (sym m.1) (all_words (λ v. Matches a v) (λ v at. regex_words t a v means.0 at) m.0 m.2)
regex_words t r w means m = absurd means

abbrev pub HasCharWords : Regex → Type 0
HasCharWords r = (w : List ℕ) → Matches r w → AreChars w

pattern_words : (pattern : List ℕ) (r : Regex) → IsPatternOf pattern r → HasCharWords r
pattern_words pattern r is w m = regex_words is.0 r w is.2 m

terms_words : (us : List SheetUnit) (rs : List Regex) → AreTermsOf us rs → EachOf HasCharWords rs
terms_words [] [] are = tt
terms_words [] (r ∷ rs) are = absurd are
terms_words (Terminal name pattern regex line ∷ us) [] are = absurd are
terms_words (Terminal name pattern regex line ∷ us) (r ∷ rs) are = (pattern_words pattern r are.0, terms_words us rs are.1)
terms_words (Ignorable name pattern regex normal line ∷ us) rs are = terms_words us rs are
terms_words (Fence left right line ∷ us) rs are = terms_words us rs are
terms_words (Production name left right line ∷ us) rs are = terms_words us rs are

skips_words : (us : List SheetUnit) (ks : List SkipPart) → AreSkipsOf us ks → EachOf (λ (k : SkipPart). HasCharWords k.regex) ks
skips_words [] [] are = tt
skips_words [] (k ∷ ks) are = absurd are
skips_words (Terminal name pattern regex line ∷ us) ks are = skips_words us ks are
skips_words (Ignorable name pattern regex normal line ∷ us) [] are = absurd are
skips_words (Ignorable name pattern regex normal line ∷ us) (k ∷ ks) are = (pattern_words pattern k.regex are.0, skips_words us ks are.2)
skips_words (Fence left right line ∷ us) ks are = skips_words us ks are
skips_words (Production name left right line ∷ us) ks are = skips_words us ks are

-- the words of a grammar's terminals and ignorables are characters of XML
pub record IsSpelt (g : Grammar) : Type 0 where
  pub terms : (t : ℕ) (w : List ℕ) → IsTermWord g t w → AreChars w
  pub skips : (k : ℕ) (w : List ℕ) → IsSkipWord g k w → AreChars w

pub gram_spelt : (s : Sheet) (names : List (List ℕ)) (side : Side) (g : Grammar) → IsGramOf s names side g → IsSpelt g
gram_spelt s names side g is =
    let terms = each_of_map HasCharWords (λ (t : GTerminal). t.regex) g.terms (terms_words s.units (map (λ (t : GTerminal). t.regex) g.terms) is.terms) in
    let skips = each_of_map (λ (k : SkipPart). HasCharWords k.regex) skip_part g.skips (skips_words s.units (map skip_part g.skips) is.skips) in
    record {
      terms = λ t. each_at (λ (t : GTerminal). HasCharWords t.regex) g.terms t no_terminal (λ w m. subst AreChars (sym m) refl) terms;
      skips = λ k. each_at (λ (k : GIgnorable). HasCharWords k.regex) g.skips k no_ignorable (λ w m. subst AreChars (sym m) refl) skips;
    }
