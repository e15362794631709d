-- The pairs of grammars of sheets that are alike, and of one sheet.
use Rattle.std.proofs.Common.{◌≡◌, ◌∙◌, ℕ, zero, suc, List, [], ◌∷◌, length, map, get_or, refl, sym, ap, subst}
use Rattle.std.proofs.lemmas.List.{length-map}
use Rattle.xs_class.specs.Ordered.{AreNamesOf}
use Rattle.xs_class.specs.declared.side.Side.{Side}
use Rattle.xs_class.specs.declared.side.Side.TheVariants.{Text, Xml}
use Rattle.xs_regex.specs.declared.regex.Regex.{Regex}
use Rattle.xs_regex.specs.Meaning.{IsPatternOf}
use Rattle.xs_sheet.specs.declared.sheet.Sheet.{Sheet}
use Rattle.xs_sheet.specs.declared.unit.Unit.{Unit}
use Rattle.xs_sheet.specs.declared.unit.Unit.TheVariants as V
use Rattle.xs_gram.specs.declared.parts.SkipPart.{SkipPart}
use Rattle.xs_gram.specs.declared.parts.Terminal.{Terminal}
use Rattle.xs_gram.specs.declared.parts.Ignorable.{Ignorable}
use Rattle.xs_gram.specs.Building.{skip_part}
use Rattle.xs_gram.specs.Grammar.{Grammar, no_terminal, no_ignorable}
use Rattle.xs_pair.specs.declared.names.Sort.TheVariants as S
use Rattle.xs_pair.specs.declared.production.Rule.{Rule}
use Rattle.xs_pair.specs.Units.{firsts, nons_of, terms_of, skips_of, number_of}
use Rattle.xs_pair.specs.Marks.{slot_names}
use Rattle.xs_pair.specs.Listing.{rules_of, names_in}
use Rattle.xs_pair.specs.Fences.{AreFences}
use Rattle.xs_pair.specs.Grammars.{Numbering, numbering, rule_parts, AreTermsOf, AreSkipsOf, IsGramOf, Pair, IsPairOf}
use Rattle.xs_wf.proofs.Agreement as A
use Rattle.xs_sheet_laws.specs.Regexes as R
use Rattle.xs_sheet_laws.specs.Grammars as G
use Rattle.xs_sheet_laws.specs.Sheets.{AllAlike, AreAlike}
use Rattle.xs_sheet_laws.specs.Laws.{OnePair}
use Rattle.xs_sheet_laws.proofs.Twins.{names_same, rules_same}
use Rattle.xs_sheet_laws.proofs.Sheets.{regexes_alike}
use Rattle.xs_sheet_laws.proofs.Fencing.{fences_kept, fences_same}
use Rattle.xs_pair.proofs.Alike.{regex_at}

-- what a pair of grammars takes of units
pub record HaveSameParts (us vs : List Unit) : Type 0 where
  pub nons : nons_of us ≡ nons_of vs
  pub terms : terms_of us ≡ terms_of vs
  pub skips : skips_of us ≡ skips_of vs
  pub rules : rules_of us ≡ rules_of vs

pub same_parts : (us vs : List Unit) → AllAlike us vs → HaveSameParts us vs
same_parts us vs alike = record {
  nons = ap firsts (names_same S.Production us vs alike);
  terms = names_same S.Terminal us vs alike;
  skips = names_same S.Ignorable us vs alike;
  rules = rules_same us vs alike;
}

numbered_same : (us vs : List Unit) (names : List (List ℕ)) → HaveSameParts us vs → numbering us names ≡ numbering vs names
numbered_same us vs names same = rw (same.nons, same.terms, same.skips) refl

terms_kept : (us vs : List Unit) (rs : List Regex) → AllAlike us vs → AreTermsOf us rs → AreTermsOf vs rs
terms_kept [] [] rs alike are = are
terms_kept (V.Terminal n p r l ∷ us) (V.Terminal n' p' r' l' ∷ vs) [] alike are = absurd are
terms_kept (V.Terminal n p r l ∷ us) (V.Terminal n' p' r' l' ∷ vs) (q ∷ rs) alike are = (subst (λ x. IsPatternOf x q) alike.0.1 are.0, terms_kept us vs rs alike.1 are.1)
terms_kept (V.Ignorable n p r m l ∷ us) (V.Ignorable n' p' r' m' l' ∷ vs) rs alike are = terms_kept us vs rs alike.1 are
terms_kept (V.Production n a b l ∷ us) (V.Production n' a' b' l' ∷ vs) rs alike are = terms_kept us vs rs alike.1 are
terms_kept (V.Fence a b l ∷ us) (V.Fence a' b' l' ∷ vs) rs alike are = terms_kept us vs rs alike.1 are
terms_kept (u ∷ us) (v ∷ vs) rs alike are = absurd alike.0
terms_kept us vs rs alike are = absurd alike

skips_kept : (us vs : List Unit) (ks : List SkipPart) → AllAlike us vs → AreSkipsOf us ks → AreSkipsOf vs ks
skips_kept [] [] ks alike are = are
skips_kept (V.Ignorable n p r m l ∷ us) (V.Ignorable n' p' r' m' l' ∷ vs) [] alike are = absurd are
skips_kept (V.Ignorable n p r m l ∷ us) (V.Ignorable n' p' r' m' l' ∷ vs) (k ∷ ks) alike are =
    (subst (λ x. IsPatternOf x k.regex) alike.0.1 are.0, are.1 ∙ alike.0.3, skips_kept us vs ks alike.1 are.2)
skips_kept (V.Terminal n p r l ∷ us) (V.Terminal n' p' r' l' ∷ vs) ks alike are = skips_kept us vs ks alike.1 are
skips_kept (V.Production n a b l ∷ us) (V.Production n' a' b' l' ∷ vs) ks alike are = skips_kept us vs ks alike.1 are
skips_kept (V.Fence a b l ∷ us) (V.Fence a' b' l' ∷ vs) ks alike are = skips_kept us vs ks alike.1 are
skips_kept (u ∷ us) (v ∷ vs) ks alike are = absurd alike.0
skips_kept us vs ks alike are = absurd alike

gram_kept : (s t : Sheet) (names : List (List ℕ)) (side : Side) (g : Grammar) → AreAlike s t → IsGramOf s names side g → IsGramOf t names side g
gram_kept s t names side g alike of =
    let same = same_parts s.units t.units alike.units in record {
      start = of.start ∙ ap (λ (ns : List (List ℕ)). number_of ns s.start) same.nons ∙ ap (λ (x : List ℕ). number_of (nons_of t.units) x) alike.start;
      nons = of.nons ∙ ap (λ (ns : List (List ℕ)). length ns) same.nons;
      rules = of.rules ∙ ap (λ (n : Numbering). rule_parts n side (rules_of s.units)) (numbered_same s.units t.units names same) ∙ ap (λ (rs : List Rule). rule_parts (numbering t.units names) side rs) same.rules;
      terms = terms_kept s.units t.units (map (λ (x : Terminal). x.regex) g.terms) alike.units of.terms;
      skips = skips_kept s.units t.units (map skip_part g.skips) alike.units of.skips;
      fences = fences_kept s t names side g.fences alike of.fences;
    }

-- sheets that are alike have the same pairs
pub pair_kept : (s t : Sheet) (p : Pair) → AreAlike s t → IsPairOf s p → IsPairOf t p
pair_kept s t p alike of =
    let same = same_parts s.units t.units alike.units in record {
      names = subst (λ (rs : List Rule). AreNamesOf (names_in rs) p.names) same.rules of.names;
      text = gram_kept s t p.names Text p.text alike of.text;
      xml = gram_kept s t p.names Xml p.xml alike of.xml;
      lines = of.lines ∙ ap (λ (rs : List Rule). map (λ (r : Rule). r.line) rs) same.rules;
      nons = of.nons ∙ same.nons;
      slots = of.slots ∙ ap (λ (rs : List Rule). map (λ (r : Rule). slot_names r.left) rs) same.rules;
    }

-- terminals and ignorables of the same units are alike, one by one
itself : (r : Regex) → R.AreAlike r r
itself r = record { size = refl; form = refl; classes = refl; words = λ w. (λ m. m, λ m. m) }

record AreLike (rs qs : List Regex) (d : Regex) : Type 0 where
  long : length rs ≡ length qs
  each : (t : ℕ) → R.AreAlike (get_or rs t d) (get_or qs t d)

like_more : (r q : Regex) (rs qs : List Regex) (d : Regex) → R.AreAlike r q → AreLike rs qs d → AreLike (r ∷ rs) (q ∷ qs) d
like_more r q rs qs d one more = record { long = ap suc more.long; each = at }
  where
    at : (t : ℕ) → R.AreAlike (get_or (r ∷ rs) t d) (get_or (q ∷ qs) t d)
    at zero = one
    at (suc t) = more.each t

terms_like : (us : List Unit) (rs qs : List Regex) (d : Regex) → AreTermsOf us rs → AreTermsOf us qs → AreLike rs qs d
terms_like [] [] [] d one two = record { long = refl; each = λ t. itself d }
terms_like [] (r ∷ rs) qs d one two = absurd one
terms_like [] [] (q ∷ qs) d one two = absurd two
terms_like (V.Terminal name pattern regex line ∷ us) [] qs d one two = absurd one
terms_like (V.Terminal name pattern regex line ∷ us) (r ∷ rs) [] d one two = absurd two
terms_like (V.Terminal name pattern regex line ∷ us) (r ∷ rs) (q ∷ qs) d one two = like_more r q rs qs d (regexes_alike pattern r q one.0 two.0) (terms_like us rs qs d one.1 two.1)
terms_like (V.Ignorable name pattern regex normal line ∷ us) rs qs d one two = terms_like us rs qs d one two
terms_like (V.Fence left right line ∷ us) rs qs d one two = terms_like us rs qs d one two
terms_like (V.Production name left right line ∷ us) rs qs d one two = terms_like us rs qs d one two

record AreLikeSkips (js ks : List SkipPart) (d : SkipPart) : Type 0 where
  long : length js ≡ length ks
  each : (k : ℕ) → R.AreAlike (get_or js k d).regex (get_or ks k d).regex
  normals : (k : ℕ) → (get_or js k d).normal ≡ (get_or ks k d).normal

skip_more : (i j : SkipPart) (js ks : List SkipPart) (d : SkipPart) → R.AreAlike i.regex j.regex → i.normal ≡ j.normal → AreLikeSkips js ks d → AreLikeSkips (i ∷ js) (j ∷ ks) d
skip_more i j js ks d one same more = record { long = ap suc more.long; each = at; normals = normal_at }
  where
    at : (k : ℕ) → R.AreAlike (get_or (i ∷ js) k d).regex (get_or (j ∷ ks) k d).regex
    at zero = one
    at (suc k) = more.each k

    normal_at : (k : ℕ) → (get_or (i ∷ js) k d).normal ≡ (get_or (j ∷ ks) k d).normal
    normal_at zero = same
    normal_at (suc k) = more.normals k

skips_like : (us : List Unit) (js ks : List SkipPart) (d : SkipPart) → AreSkipsOf us js → AreSkipsOf us ks → AreLikeSkips js ks d
skips_like [] [] [] d one two = record { long = refl; each = λ k. itself d.regex; normals = λ k. refl }
skips_like [] (i ∷ js) ks d one two = absurd one
skips_like [] [] (j ∷ ks) d one two = absurd two
skips_like (V.Terminal name pattern regex line ∷ us) js ks d one two = skips_like us js ks d one two
skips_like (V.Ignorable name pattern regex normal line ∷ us) [] ks d one two = absurd one
skips_like (V.Ignorable name pattern regex normal line ∷ us) (i ∷ js) [] d one two = absurd two
skips_like (V.Ignorable name pattern regex normal line ∷ us) (i ∷ js) (j ∷ ks) d one two =
    skip_more i j js ks d (regexes_alike pattern i.regex j.regex one.0 two.0) (one.1 ∙ sym two.1) (skips_like us js ks d one.2 two.2)
skips_like (V.Fence left right line ∷ us) js ks d one two = skips_like us js ks d one two
skips_like (V.Production name left right line ∷ us) js ks d one two = skips_like us js ks d one two

part_at : (ks : List Ignorable) (k : ℕ) → get_or (map skip_part ks) k (skip_part no_ignorable) ≡ skip_part (get_or ks k no_ignorable)
part_at [] k = refl
part_at (x ∷ ks) zero = refl
part_at (x ∷ ks) (suc k) = part_at ks k

grams_alike : (s : Sheet) (ms ns : List (List ℕ)) (side : Side) (g h : Grammar) → ms ≡ ns → IsGramOf s ms side g → IsGramOf s ns side h → G.AreAlike g h
grams_alike s ms ns side g h same one two =
    let regex_of : Terminal → Regex = λ (x : Terminal). x.regex in
    let terms = terms_like s.units (map regex_of g.terms) (map regex_of h.terms) no_terminal.regex one.terms two.terms in
    let skips = skips_like s.units (map skip_part g.skips) (map skip_part h.skips) (skip_part no_ignorable) one.skips two.skips in record {
      start = one.start ∙ sym two.start;
      nons = one.nons ∙ sym two.nons;
      fences = fences_same s ns side g.fences h.fences (subst (λ names. AreFences s names side g.fences) same one.fences) two.fences;
      rules = one.rules ∙ ap (λ names. rule_parts (numbering s.units names) side (rules_of s.units)) same ∙ sym two.rules;
      terms = sym (length-map g.terms regex_of) ∙ terms.long ∙ length-map h.terms regex_of;
      skips = sym (length-map g.skips skip_part) ∙ skips.long ∙ length-map h.skips skip_part;
      term_regexes = λ t. subst (λ r. R.AreAlike (get_or g.terms t no_terminal).regex r) (regex_at h.terms t) (subst (λ r. R.AreAlike r (get_or (map regex_of h.terms) t no_terminal.regex)) (regex_at g.terms t) (terms.each t));
      skip_regexes = λ k. subst (λ (j : SkipPart). R.AreAlike (get_or g.skips k no_ignorable).regex j.regex) (part_at h.skips k) (subst (λ (j : SkipPart). R.AreAlike j.regex (get_or (map skip_part h.skips) k (skip_part no_ignorable)).regex) (part_at g.skips k) (skips.each k));
      normals = λ k. sym (ap (λ (j : SkipPart). j.normal) (part_at g.skips k)) ∙ skips.normals k ∙ ap (λ (j : SkipPart). j.normal) (part_at h.skips k);
    }

pub one_pair_lem : OnePair
one_pair_lem s p q one two =
    let names = A.names_same _ p.names q.names one.names two.names in record {
      text = grams_alike s p.names q.names Text p.text q.text names one.text two.text;
      xml = grams_alike s p.names q.names Xml p.xml q.xml names one.xml two.xml;
      names = names;
      lines = one.lines ∙ sym two.lines;
      nons = one.nons ∙ sym two.nons;
      slots = one.slots ∙ sym two.slots;
    }
