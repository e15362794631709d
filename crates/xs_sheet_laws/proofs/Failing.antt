-- Sheets that are alike fail the same rules at the same lines.
use Rattle.std.proofs.Common.{◌≡◌, ◌∙◌, ℕ, List, inl, inr, take, refl, sym, subst}
use Rattle.xs_sheet.specs.declared.sheet.Sheet.{Sheet}
use Rattle.xs_sheet.specs.declared.unit.Unit.{Unit}
use Rattle.xs_sheet.specs.declared.unit.Unit.TheVariants.{Terminal, Ignorable, Production, Fence}
use Rattle.xs_pair.specs.declared.ill.Ill.{Ill}
use Rattle.xs_pair.specs.declared.ill.IllRule.{IllRule}
use Rattle.xs_pair.specs.declared.ill.IllRule.TheVariants as I
use Rattle.xs_pair.specs.declared.names.Sort.TheVariants as S
use Rattle.xs_pair.specs.declared.production.Rule.{Rule}
use Rattle.xs_pair.specs.Units.{names_of}
use Rattle.xs_pair.specs.Rules.{IsAmong, IsTwice, IsAbsent}
use Rattle.xs_pair.specs.Listing.{rules_of}
use Rattle.xs_pair.specs.Verdict.{Tables, tables_of, FailsAmong, IsLineWhere, FailsAt}
use Rattle.xs_pair.specs.Grammars.{Pair}
use Rattle.xs_wf.specs.Units.{HasEmptyClass, IsUnmatched, HasStrange, IsEmptyUnit, IsStrangeUnit, IsUnmatchedUnit, IsStrangeRule}
use Rattle.xs_wf.specs.Nonterminals.{FailsAmongNons}
use Rattle.xs_wf.specs.Rules.{Fails, IsWell, IsIll}
use Rattle.xs_sheet_laws.specs.Sheets.{AreAlikeUnits, AllAlike, AreAlike}
use Rattle.xs_sheet_laws.specs.Laws.{AlikeSheetsMeanTheSame}
use Rattle.xs_sheet_laws.proofs.Twins.{fronts, names_same, rules_same}
use Rattle.xs_sheet_laws.proofs.Sheets.{alike_back}
use Rattle.xs_sheet_laws.proofs.Fencing.{line_kept, fence_kept}
use Rattle.xs_sheet_laws.proofs.Pairs.{pair_kept}

-- a name among names, where both are the same
among : (ns ms : List (List ℕ)) (n m : List ℕ) → ns ≡ ms → n ≡ m → IsAmong ns n → IsAmong ms m
among ns ms n m e f h = subst (λ x. IsAmong ms x) f (subst (λ (xs : List (List ℕ)). IsAmong xs n) e h)

twice_kept : (us vs : List Unit) (k : ℕ) (u v : Unit) → AllAlike us vs → AreAlikeUnits u v → IsTwice us k u → IsTwice vs k v
twice_kept us vs k (Terminal n p r l) (Terminal n' p' r' l') all a h = among _ _ n n' (names_same S.Any (take k us) (take k vs) (fronts k us vs all)) a.0 h
twice_kept us vs k (Ignorable n p r m l) (Ignorable n' p' r' m' l') all a h = among _ _ n n' (names_same S.Any (take k us) (take k vs) (fronts k us vs all)) a.0 h
twice_kept us vs k (Production n x y l) (Production n' x' y' l') all a h = among _ _ n n' (names_same S.Lexical (take k us) (take k vs) (fronts k us vs all)) a.0 h
twice_kept us vs k (Fence x y l) (Fence x' y' l') all a h = absurd h
twice_kept us vs k u v all a h = absurd a

empty_kept : (u v : Unit) → AreAlikeUnits u v → IsEmptyUnit u → IsEmptyUnit v
empty_kept (Terminal n p r l) (Terminal n' p' r' l') a h = subst (λ x. HasEmptyClass x) a.1 h
empty_kept (Ignorable n p r m l) (Ignorable n' p' r' m' l') a h = subst (λ x. HasEmptyClass x) a.1 h
empty_kept (Production n x y l) (Production n' x' y' l') a h = absurd h
empty_kept (Fence x y l) (Fence x' y' l') a h = absurd h
empty_kept u v a h = absurd a

strange_kept : (u v : Unit) → AreAlikeUnits u v → IsStrangeUnit u → IsStrangeUnit v
strange_kept (Ignorable n p r m l) (Ignorable n' p' r' m' l') a h = subst (λ x. HasStrange x) a.3 h
strange_kept (Ignorable n p r m l) v a h = absurd a
strange_kept u v a h = absurd h

unmatched_kept : (u v : Unit) → AreAlikeUnits u v → IsUnmatchedUnit u → IsUnmatchedUnit v
unmatched_kept (Ignorable n p r m l) (Ignorable n' p' r' m' l') a h = subst (λ x. IsUnmatched p' x) a.3 (subst (λ x. IsUnmatched x m) a.1 h)
unmatched_kept (Ignorable n p r m l) v a h = absurd a
unmatched_kept u v a h = absurd h

tables_same : (s t : Sheet) → AreAlike s t → tables_of s ≡ tables_of t
tables_same s t alike = rw (names_same S.Any s.units t.units alike.units, names_same S.Terminal s.units t.units alike.units, names_same S.Ignorable s.units t.units alike.units, alike.start) refl

among_kept : (s t : Sheet) → AreAlike s t → (rule : IllRule) (line : ℕ) → FailsAmong (tables_of s) (rules_of s.units) rule line → FailsAmong (tables_of t) (rules_of t.units) rule line
among_kept s t alike rule line h =
    subst (λ (rs : List Rule). FailsAmong (tables_of t) rs rule line) (rules_same s.units t.units alike.units) (subst (λ (x : Tables). FailsAmong x (rules_of s.units) rule line) (tables_same s t alike) h)

start_kept : (s t : Sheet) → AreAlike s t → (line : ℕ) → FailsAt s I.NoStart line → FailsAt t I.NoStart line
start_kept s t alike line (absent, is) =
    (subst (λ x. IsAbsent (names_of S.Production t.units) x) alike.start (subst (λ (ns : List (List ℕ)). IsAbsent ns s.start) (names_same S.Production s.units t.units alike.units) absent), sym alike.start_line ∙ is)

nons_kept : (P : Pair → ℕ → Type 0) (s t : Sheet) → AreAlike s t → (line : ℕ) → FailsAmongNons P s line → FailsAmongNons P t line
nons_kept P s t alike line (p, of, first) = (p, pair_kept s t p alike of, first)

strange : (s t : Sheet) → AreAlike s t → (line : ℕ) → Fails s I.NotChar line → Fails t I.NotChar line
strange s t alike line (inl h) = inl (line_kept s.units t.units (λ k u. IsStrangeUnit u) (λ k u. IsStrangeUnit u) alike.units (λ k u v. strange_kept u v) line h)
strange s t alike line (inr h) = inr (subst (λ (rs : List Rule). IsLineWhere (λ k r. IsStrangeRule r) (λ (r : Rule). r.line) rs line) (rules_same s.units t.units alike.units) h)

pub fails_kept : (s t : Sheet) → AreAlike s t → (rule : IllRule) (line : ℕ) → Fails s rule line → Fails t rule line
fails_kept s t alike I.Twice line h = line_kept s.units t.units (IsTwice s.units) (IsTwice t.units) alike.units (λ k u v a. twice_kept s.units t.units k u v alike.units a) line h
fails_kept s t alike I.Undefined line h = among_kept s t alike I.Undefined line h
fails_kept s t alike I.NoStart line h = start_kept s t alike line h
fails_kept s t alike I.NameOnce line h = among_kept s t alike I.NameOnce line h
fails_kept s t alike I.Kind line h = among_kept s t alike I.Kind line h
fails_kept s t alike I.AttrTwice line h = among_kept s t alike I.AttrTwice line h
fails_kept s t alike I.RootShape line h = among_kept s t alike I.RootShape line h
fails_kept s t alike I.EmptyClass line h = line_kept s.units t.units (λ k u. IsEmptyUnit u) (λ k u. IsEmptyUnit u) alike.units (λ k u v. empty_kept u v) line h
fails_kept s t alike I.NotChar line h = strange s t alike line h
fails_kept s t alike I.Normal line h = line_kept s.units t.units (λ k u. IsUnmatchedUnit u) (λ k u. IsUnmatchedUnit u) alike.units (λ k u v. unmatched_kept u v) line h
fails_kept s t alike I.Unproductive line h = nons_kept _ s t alike line h
fails_kept s t alike I.Loop line h = nons_kept _ s t alike line h
fails_kept s t alike I.FenceChar line h = fence_kept s.units t.units alike.units I.FenceChar line h
fails_kept s t alike I.FenceInside line h = fence_kept s.units t.units alike.units I.FenceInside line h
fails_kept s t alike I.FenceOpen line h = fence_kept s.units t.units alike.units I.FenceOpen line h

well_kept : (s t : Sheet) → AreAlike s t → IsWell s → IsWell t
well_kept s t alike well rule line h = well rule line (fails_kept t s (alike_back s t alike) rule line h)

ill_kept : (s t : Sheet) → AreAlike s t → (ill : Ill) → IsIll s ill → IsIll t ill
ill_kept s t alike ill is = record {
  line = record { fails = fails_kept s t alike ill.rule ill.line is.line.fails; least = λ other h. is.line.least other (fails_kept t s (alike_back s t alike) ill.rule other h) };
  first = λ rule line before h. is.first rule line before (fails_kept t s (alike_back s t alike) rule line h);
}

pub alike_sheets_lem : AlikeSheetsMeanTheSame
alike_sheets_lem s t alike =
    let back = alike_back s t alike in record {
      well = (well_kept s t alike, well_kept t s back);
      ill = λ ill. (ill_kept s t alike ill, ill_kept t s back ill);
      pairs = λ p. (pair_kept s t p alike, pair_kept t s p back);
    }
