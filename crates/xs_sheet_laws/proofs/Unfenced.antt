-- Fences after the units of a sheet of version 1: its grammars but for their fences, and the rules that fail.
use Rattle.std.proofs.Common.{◌≡◌, ◌∙◌, ℕ, List, [], ◌++◌, inl, inr, length, map, take, refl, sym, ap, subst, arith, Some, slice_get}
use Rattle.std.proofs.lemmas.List.{take-append-le}
use Rattle.std.proofs.lemmas.Option.{slice_get_within}
use Rattle.xs_class.specs.declared.side.Side.{Side}
use Rattle.xs_class.specs.declared.side.Side.TheVariants.{Text, Xml}
use Rattle.xs_class.specs.Ordered.{AreNamesOf}
use Rattle.xs_gram.specs.declared.parts.Terminal.{Terminal as GTerminal}
use Rattle.xs_gram.specs.Building.{skip_part}
use Rattle.xs_gram.specs.Grammar.{Grammar}
use Rattle.xs_sheet.specs.declared.sheet.Sheet.{Sheet}
use Rattle.xs_sheet.specs.declared.unit.Unit.{Unit}
use Rattle.xs_sheet.specs.declared.unit.Unit.TheVariants.{Terminal, Ignorable, Production, Fence}
use Rattle.xs_pair.specs.declared.ill.IllRule.{IllRule}
use Rattle.xs_pair.specs.declared.ill.IllRule.TheVariants as I
use Rattle.xs_pair.specs.declared.names.Sort.TheVariants as S
use Rattle.xs_pair.specs.declared.production.Rule.{Rule}
use Rattle.xs_pair.specs.Units.{names_of, firsts, nons_of, number_of}
use Rattle.xs_pair.specs.Marks.{slot_names}
use Rattle.xs_pair.specs.Rules.{IsAmong, IsTwice, IsAbsent}
use Rattle.xs_pair.specs.Listing.{rules_of, names_in}
use Rattle.xs_pair.specs.Fences.{FenceFails, AreFences, fence_pairs}
use Rattle.xs_pair.specs.Grammars.{Pair, Numbering, numbering, rule_parts, IsGramOf, IsPairOf}
use Rattle.xs_pair.specs.Verdict.{Tables, tables_of, FailsAmong, IsLineWhere, NoneFails}
use Rattle.xs_pair.specs.Upgrades.{fence_of}
use Rattle.xs_wf.specs.Units.{IsEmptyUnit, IsStrangeUnit, IsUnmatchedUnit, IsStrangeRule}
use Rattle.xs_wf.specs.Nonterminals.{IsUnproductive, IsLooping, FailsAmongNons}
use Rattle.xs_wf.specs.Rules.{Fails, IsWell}
use Rattle.xs_sheet_laws.proofs.OtherFences.{with_fences, not_productive, derives_itself}
use Rattle.xs_sheet_laws.proofs.Copied.{with_pairs}
use Rattle.xs_sheet_laws.proofs.GainedFences.{names_kept, rules_kept, numbering_kept, terms_kept, skips_kept, line_kept}

-- two grammars without their fences
abbrev pub unfenced : Pair → Pair
unfenced q = record { text = with_fences q.text []; xml = with_fences q.xml []; names = q.names; lines = q.lines; nons = q.nons; slots = q.slots }

module _ (s : Sheet) (line : ℕ) (fs : List (ℕ × ℕ)) (not_two : s.version ≡ 2 → ⊥) (well : IsWell s) (none : fence_pairs s.units ≡ []) where
  fenced_none : NoneFails (FenceFails s.units)
  fenced_none I.FenceChar at h = well I.FenceChar at h
  fenced_none I.FenceInside at h = well I.FenceInside at h
  fenced_none I.FenceOpen at h = well I.FenceOpen at h
  fenced_none rule at h = h

  no_fences : (names : List (List ℕ)) (side : Side) → AreFences s names side []
  no_fences names Text = inl (fenced_none, sym none)
  no_fences names Xml = inr (not_two, refl)

  nons_same : nons_of (with_pairs s line fs).units ≡ nons_of s.units
  nons_same = ap (λ (ns : List (List ℕ)). firsts ns) (names_kept line S.Production s.units fs)

  gram_before : (names : List (List ℕ)) (side : Side) (g : Grammar) → IsGramOf (with_pairs s line fs) names side g → IsGramOf s names side (with_fences g [])
  gram_before names side g is = record {
    start = is.start ∙ ap (λ (ns : List (List ℕ)). number_of ns s.start) nons_same;
    nons = is.nons ∙ ap (λ (ns : List (List ℕ)). length ns) nons_same;
    rules = is.rules ∙ ap (λ (n : Numbering). rule_parts n side (rules_of (with_pairs s line fs).units)) (numbering_kept line s.units fs names) ∙ ap (λ (rs : List Rule). rule_parts (numbering s.units names) side rs) (rules_kept line s.units fs);
    terms = terms_kept line s.units fs (map (λ (t : GTerminal). t.regex) g.terms) is.terms;
    skips = skips_kept line s.units fs (map skip_part g.skips) is.skips;
    fences = no_fences names side;
  }

  -- the grammars with the fences, without them, are those of the sheet
  pub pair_before : (q : Pair) → IsPairOf (with_pairs s line fs) q → IsPairOf s (unfenced q)
  pair_before q is =
      let same : rules_of (with_pairs s line fs).units ≡ rules_of s.units = rules_kept line s.units fs in
      record {
        names = subst (λ (rs : List Rule). AreNamesOf (names_in rs) q.names) same is.names;
        text = gram_before q.names Text q.text is.text;
        xml = gram_before q.names Xml q.xml is.xml;
        lines = is.lines ∙ ap (λ (rs : List Rule). map (λ (r : Rule). r.line) rs) same;
        nons = is.nons ∙ nons_same;
        slots = is.slots ∙ ap (λ (rs : List Rule). map (λ (r : Rule). slot_names r.left) rs) same;
      }

  -- rules that fail with the fences fail without them
  tables_same : tables_of (with_pairs s line fs) ≡ tables_of s
  tables_same = rw (names_kept line S.Any s.units fs, names_kept line S.Terminal s.units fs, names_kept line S.Ignorable s.units fs) refl

  among_kept : (rule : IllRule) (at : ℕ) → FailsAmong (tables_of (with_pairs s line fs)) (rules_of (with_pairs s line fs).units) rule at → FailsAmong (tables_of s) (rules_of s.units) rule at
  among_kept rule at h =
      subst (λ (rs : List Rule). FailsAmong (tables_of s) rs rule at) (rules_kept line s.units fs) (subst (λ (x : Tables). FailsAmong x (rules_of (with_pairs s line fs).units) rule at) tables_same h)

  front_same : (k : ℕ) (u : Unit) → slice_get s.units k ≡ Some u → take k (s.units ++ map (fence_of line) fs) ≡ take k s.units
  front_same k u there = let low = slice_get_within s.units k u there in take-append-le k s.units (map (fence_of line) fs) (omega arith)

  twice_kept : (k : ℕ) (u : Unit) → slice_get s.units k ≡ Some u → IsTwice (with_pairs s line fs).units k u → IsTwice s.units k u
  twice_kept k (Terminal n p r l) there h = subst (λ (us : List Unit). IsAmong (names_of S.Any us) n) (front_same k (Terminal n p r l) there) h
  twice_kept k (Ignorable n p r m l) there h = subst (λ (us : List Unit). IsAmong (names_of S.Any us) n) (front_same k (Ignorable n p r m l) there) h
  twice_kept k (Production n a b l) there h = subst (λ (us : List Unit). IsAmong (names_of S.Lexical us) n) (front_same k (Production n a b l) there) h
  twice_kept k (Fence a b l) there h = h

  strange : (at : ℕ) → Fails (with_pairs s line fs) I.NotChar at → Fails s I.NotChar at
  strange at (inl h) = inl (line_kept line s.units fs (λ k u. IsStrangeUnit u) (λ k u. IsStrangeUnit u) (λ k u there p. p) (λ k f p. p) at h)
  strange at (inr h) = inr (subst (λ (rs : List Rule). IsLineWhere (λ k r. IsStrangeRule r) (λ (r : Rule). r.line) rs at) (rules_kept line s.units fs) h)

  unproductive : (q : Pair) (n : ℕ) → IsUnproductive q n → IsUnproductive (unfenced q) n
  unproductive q n (inl never) = inl (not_productive q.text [] n never)
  unproductive q n (inr never) = inr (not_productive q.xml [] n never)

  looping : (q : Pair) (n : ℕ) → IsLooping q n → IsLooping (unfenced q) n
  looping q n (inl on) = inl (derives_itself q.text [] n on)
  looping q n (inr on) = inr (derives_itself q.xml [] n on)

  nons_kept : (P : Pair → ℕ → Type 0) → ((q : Pair) (n : ℕ) → P q n → P (unfenced q) n) → (at : ℕ) → FailsAmongNons P (with_pairs s line fs) at → FailsAmongNons P s at
  nons_kept P kept at (q, of, first) = (
    unfenced q,
    pair_before q of,
    record { non = first.non; rule = first.rule; holds = kept q first.non first.holds; first = record { of = first.first.of; first = first.first.first }; there = first.there },
  )

  fails_kept : (rule : IllRule) (at : ℕ) → NoneFails (FenceFails (with_pairs s line fs).units) → Fails (with_pairs s line fs) rule at → Fails s rule at
  fails_kept I.Twice at fine h = line_kept line s.units fs (IsTwice (with_pairs s line fs).units) (IsTwice s.units) twice_kept (λ k f p. p) at h
  fails_kept I.Undefined at fine h = among_kept I.Undefined at h
  fails_kept I.NoStart at fine h = (subst (λ (ns : List (List ℕ)). IsAbsent ns s.start) (names_kept line S.Production s.units fs) h.0, h.1)
  fails_kept I.NameOnce at fine h = among_kept I.NameOnce at h
  fails_kept I.Kind at fine h = among_kept I.Kind at h
  fails_kept I.AttrTwice at fine h = among_kept I.AttrTwice at h
  fails_kept I.RootShape at fine h = among_kept I.RootShape at h
  fails_kept I.EmptyClass at fine h = line_kept line s.units fs (λ k u. IsEmptyUnit u) (λ k u. IsEmptyUnit u) (λ k u there p. p) (λ k f p. p) at h
  fails_kept I.NotChar at fine h = strange at h
  fails_kept I.Normal at fine h = line_kept line s.units fs (λ k u. IsUnmatchedUnit u) (λ k u. IsUnmatchedUnit u) (λ k u there p. p) (λ k f p. p) at h
  fails_kept I.Unproductive at fine h = nons_kept IsUnproductive unproductive at h
  fails_kept I.Loop at fine h = nons_kept IsLooping looping at h
  fails_kept I.FenceChar at fine h = absurd (fine I.FenceChar at h)
  fails_kept I.FenceInside at fine h = absurd (fine I.FenceInside at h)
  fails_kept I.FenceOpen at fine h = absurd (fine I.FenceOpen at h)

  pub gained_well : NoneFails (FenceFails (with_pairs s line fs).units) → IsWell (with_pairs s line fs)
  gained_well fine rule at h = well rule at (fails_kept rule at fine h)
