-- The upgrade of a sheet, by what it is: a copy of the sheet, or one with fences after its units.
use Rattle.std.proofs.Common.{◌≡◌, ◌∙◌, ℕ, ◌<◌, List, [], ◌∷◌, inl, inr, length, refl, sym, ap, subst, arith}
use Rattle.std.specs.List.{Contains}
use Rattle.xs_gram.specs.Grammar.{Grammar}
use Rattle.xs_gram.specs.Fences.{IsFence}
use Rattle.xs_gram.specs.declared.parts.RulePart.{RulePart}
use Rattle.xs_gram.specs.declared.parts.SkipPart.{SkipPart}
use Rattle.xs_gram.specs.Building.{EachOf}
use Rattle.xs_gram.specs.Sound.{IsProper, IsBuilt}
use Rattle.xs_regex.specs.declared.regex.Regex.{Regex}
use Rattle.xs_check_laws.specs.Acceptance.{IsLight, IsAccepted}
use Rattle.xs_check_laws.specs.MoreFences.{GainsFences, AcceptedStaysAccepted}
use Rattle.xs_chart_laws.proofs.Fillings.{filled}
use Rattle.xs_sheet.specs.declared.sheet.Sheet.{Sheet}
use Rattle.xs_sheet.specs.declared.unit.Unit.{Unit}
use Rattle.xs_sheet.specs.Outline.{UnitOutline}
use Rattle.xs_sheet.specs.Grammar.{AllMayStand}
use Rattle.xs_pair.specs.declared.production.Rule.{Rule}
use Rattle.xs_pair.specs.Fences.{FenceFails, fence_pairs}
use Rattle.xs_pair.specs.declared.ill.IllRule.TheVariants as I
use Rattle.xs_pair.specs.Verdict.{NoneFails}
use Rattle.xs_pair.specs.Grammars.{Pair, AreTermsOf, AreSkipsOf, IsPairOf}
use Rattle.xs_pair.specs.Upgrades.{brackets, AreTried, AreFenced}
use Rattle.xs_pair.proofs.Gaining.{Gained, upgrade_gained}
use Rattle.xs_pair.proofs.Said.{IsSaidOfRule}
use Rattle.xs_pair.proofs.Strings.{IsLowText}
use Rattle.xs_wf.specs.Rules.{IsWell}
use Rattle.xs_sheet_laws.specs.Grammars as G
use Rattle.xs_sheet_laws.specs.Sheets as S
use Rattle.xs_sheet_laws.specs.Pairs as P
use Rattle.xs_sheet_laws.specs.Laws.{AlikeSheetsMeanTheSame, OnePair, AlikePairsMeanTheSame}
use Rattle.xs_sheet_laws.specs.Meanings.{HaveSameSuspects, AlikeMeanTheSame, AlikeAreCheckedAlike}
use Rattle.xs_sheet_laws.proofs.Twins.{rules_same}
use Rattle.xs_sheet_laws.specs.Upgrading.{Upgrades, KeepDerivations, UpgradeIsWell, UpgradeKeepsDerivations, UpgradeStaysAccepted}
use Rattle.xs_sheet_laws.proofs.OtherFences.{with_fences, same_derivations, derivations_join, built_with}
use Rattle.xs_sheet_laws.proofs.Lined.{Spelled, AreCharacters, spelled}
use Rattle.xs_sheet_laws.proofs.Copied.{with_units, copy_alike, no_fences, with_pairs, by_parts}
use Rattle.xs_sheet_laws.proofs.GainedFences.{rules_kept, terms_more, skips_more}
use Rattle.xs_sheet_laws.proofs.ProperFences.{fenced_alike, text_side, xml_side}
use Rattle.xs_sheet_laws.proofs.Unfenced.{unfenced, pair_before, gained_well}

-- no rule on fences fails after a pair was tried, where none failed before
tried_fine : (line : ℕ) (fs : List (ℕ × ℕ)) (us vs : List Unit) → NoneFails (FenceFails us) → AreTried line fs us vs → NoneFails (FenceFails vs)
tried_fine line [] us vs fine same = subst (λ (ws : List Unit). NoneFails (FenceFails ws)) (sym same) fine
tried_fine line (f ∷ fs) us vs fine (mid, inl (can, is), more) = tried_fine line fs mid vs (subst (λ (ws : List Unit). NoneFails (FenceFails ws)) (sym is) can.1) more
tried_fine line (f ∷ fs) us vs fine (mid, inr (cannot, is), more) = tried_fine line fs mid vs (subst (λ (ws : List Unit). NoneFails (FenceFails ws)) (sym is) fine) more

well_fine : (s : Sheet) → IsWell s → NoneFails (FenceFails s.units)
well_fine s well I.FenceChar at h = well I.FenceChar at h
well_fine s well I.FenceInside at h = well I.FenceInside at h
well_fine s well I.FenceOpen at h = well I.FenceOpen at h
well_fine s well rule at h = h

-- with no fences before, a grammar gains fences
not_fence : (fs : List (ℕ × ℕ)) (l r : ℕ) → fs ≡ [] → IsFence fs l r → ⊥
not_fence fs l r none f = absent (subst (λ (gs : List (ℕ × ℕ)). Contains {X = ℕ × ℕ} gs (l, r)) none f.is)
  where
    absent : Contains {X = ℕ × ℕ} [] (l, r) → ⊥
    absent (k, below, is) = omega (arith, below)

gains : (g : Grammar) (fs : List (ℕ × ℕ)) → g.fences ≡ [] → IsBuilt g → IsProper (with_fences g fs) → GainsFences g (with_fences g fs)
gains g fs none built proper = record {
  built = built;
  built_more = built_with g fs built proper;
  more = record { start = refl; nons = refl; rules = refl; terms = refl; skips = refl; fences = λ l r f. absurd (not_fence g.fences l r none f) };
}

-- a grammar is light where one that is like it is
light_back : (g h : Grammar) → G.AreAlike g h → HaveSameSuspects g h → IsLight h → IsLight g
light_back g h a same light p lt = let l = light p (subst (λ (n : ℕ). p < n) (ap (λ (rs : List RulePart). length rs) a.rules) lt) in (l.0, (same.weighs p l.0).1 l.1, l.2)

module _ (alike : AlikeSheetsMeanTheSame) (s t : Sheet) (u : Upgrades s t) where
  is_spelled : Spelled s
  is_spelled = spelled s u.readable

  -- the sheet with copies of its units
  copy_alike_s : S.AreAlike s (with_units s u.upgrade.units.units)
  copy_alike_s = copy_alike s u.upgrade.units.units is_spelled.regexes u.upgrade.units.copies

  copy_same : S.MeanTheSame s (with_units s u.upgrade.units.units)
  copy_same = alike s (with_units s u.upgrade.units.units) copy_alike_s

  copy_well : IsWell (with_units s u.upgrade.units.units)
  copy_well = copy_same.well.0 u.well

  copy_unfenced : (s.version ≡ 2 → ⊥) → fence_pairs u.upgrade.units.units ≡ []
  copy_unfenced not_two = no_fences s.version u.upgrade.units.units is_spelled.version (subst (λ (os : List UnitOutline). AllMayStand s.version os) (sym u.upgrade.units.copies.outlines) is_spelled.may) not_two

  -- in version 2 the upgrade is the copy
  is_copy : s.version ≡ 2 → t.units ≡ u.upgrade.units.units → t ≡ with_units s u.upgrade.units.units
  is_copy two is = by_parts t (with_units s u.upgrade.units.units) (u.upgrade.version ∙ sym two) u.upgrade.start u.upgrade.start_line is

  -- in version 1 it is the copy with fences after its units
  is_gained : (g : Gained s.start_line u.upgrade.units.units t.units) → t ≡ with_pairs (with_units s u.upgrade.units.units) s.start_line g.pairs
  is_gained g = by_parts t (with_pairs (with_units s u.upgrade.units.units) s.start_line g.pairs) u.upgrade.version u.upgrade.start u.upgrade.start_line g.is

  pub is_well : IsWell t
  is_well = by u.upgrade.units.fenced
    where
      by : AreFenced s u.upgrade.units.units t.units → IsWell t
      by (inl (two, is)) = subst IsWell (sym (is_copy two is)) copy_well
      by (inr (not_two, tried)) =
          let g = upgrade_gained s u.upgrade.units.units t.units (inr (not_two, tried)) in
          let fine : NoneFails (FenceFails t.units) = tried_fine s.start_line brackets u.upgrade.units.units t.units (well_fine (with_units s u.upgrade.units.units) copy_well) tried in
          subst IsWell (sym (is_gained g)) (gained_well (with_units s u.upgrade.units.units) s.start_line g.pairs not_two copy_well (copy_unfenced not_two) (subst (λ (ws : List Unit). NoneFails (FenceFails ws)) g.is fine))

  module _ (one_pair : OnePair) (p q : Pair) (of_s : IsPairOf s p) (of_t : IsPairOf t q) where
    -- in version 2 its grammars are those of the sheet
    pub copied_pair : s.version ≡ 2 → t.units ≡ u.upgrade.units.units → P.AreAlike p q
    copied_pair two is = one_pair s p q of_s ((copy_same.pairs q).1 (subst (λ (x : Sheet). IsPairOf x q) (is_copy two is) of_t))

    -- in version 1 they are those once their fences are left out
    pub gained_pair : (s.version ≡ 2 → ⊥) → Gained s.start_line u.upgrade.units.units t.units → P.AreAlike p (unfenced q)
    gained_pair not_two g =
        one_pair s p (unfenced q) of_s
        ((copy_same.pairs (unfenced q)).1 (pair_before (with_units s u.upgrade.units.units) s.start_line g.pairs not_two copy_well (copy_unfenced not_two) q (subst (λ (x : Sheet). IsPairOf x q) (is_gained g) of_t)))

    module _ (g : Gained s.start_line u.upgrade.units.units t.units) where
      low_all : AreCharacters t.units
      low_all =
          subst (λ (ws : List Unit). AreCharacters ws) (sym g.is)
          (subst (λ (rs : List Rule). EachOf (IsSaidOfRule IsLowText) rs) (rules_same s.units u.upgrade.units.units copy_alike_s.units ∙ sym (rules_kept s.start_line u.upgrade.units.units g.pairs)) is_spelled.low)

      copied : IsPairOf (with_units s u.upgrade.units.units) p
      copied = (copy_same.pairs p).0 of_s

      terms_of_t : (rs : List Regex) → AreTermsOf u.upgrade.units.units rs → AreTermsOf t.units rs
      terms_of_t rs are = subst (λ (ws : List Unit). AreTermsOf ws rs) (sym g.is) (terms_more s.start_line u.upgrade.units.units g.pairs rs are)

      skips_of_t : (ks : List SkipPart) → AreSkipsOf u.upgrade.units.units ks → AreSkipsOf t.units ks
      skips_of_t ks are = subst (λ (ws : List Unit). AreSkipsOf ws ks) (sym g.is) (skips_more s.start_line u.upgrade.units.units g.pairs ks are)

      -- the grammars of the sheet with the fences of the upgrade
      pub proper_text : P.AreAlike p (unfenced q) → IsProper (with_fences p.text q.text.fences)
      proper_text a = text_side t (well_fine t is_well) u.upgrade.version low_all q of_t p.text q.text a.text (terms_of_t _ copied.text.terms) (skips_of_t _ copied.text.skips) of_t.text

      pub proper_xml : P.AreAlike p (unfenced q) → IsProper (with_fences p.xml q.xml.fences)
      proper_xml a = xml_side t (well_fine t is_well) u.upgrade.version low_all q of_t p.xml q.xml a.xml (terms_of_t _ copied.xml.terms) (skips_of_t _ copied.xml.skips) of_t.xml

pub well_lem : AlikeSheetsMeanTheSame → UpgradeIsWell
well_lem alike s t u = is_well alike s t u

pub derivations_lem : AlikeSheetsMeanTheSame → OnePair → AlikePairsMeanTheSame → UpgradeKeepsDerivations
derivations_lem alike one_pair same s t u p q of_s of_t = by u.upgrade.units.fenced
  where
    by : AreFenced s u.upgrade.units.units t.units → KeepDerivations p q
    by (inl (two, is)) =
        let a = copied_pair alike s t u one_pair p q of_s of_t two is in
        let m = same p q a in
        record { text = record { rules = a.text.rules; derivations = m.text.derivations }; xml = record { rules = a.xml.rules; derivations = m.xml.derivations } }
    by (inr (not_two, tried)) =
        let a = gained_pair alike s t u one_pair p q of_s of_t not_two (upgrade_gained s u.upgrade.units.units t.units (inr (not_two, tried))) in
        let m = same p (unfenced q) a in
        record {
          text = record { rules = a.text.rules; derivations = derivations_join p.text (with_fences q.text []) q.text m.text.derivations (same_derivations q.text []) };
          xml = record { rules = a.xml.rules; derivations = derivations_join p.xml (with_fences q.xml []) q.xml m.xml.derivations (same_derivations q.xml []) };
        }

pub accepted_lem : AlikeSheetsMeanTheSame → OnePair → AlikePairsMeanTheSame → AlikeMeanTheSame → AlikeAreCheckedAlike → AcceptedStaysAccepted → UpgradeStaysAccepted
accepted_lem alike one_pair same mean checked stays s t u p q of_s of_t sound accepted light_text light_xml = by u.upgrade.units.fenced
  where
    by : AreFenced s u.upgrade.units.units t.units → IsAccepted q.text q.xml
    by (inl (two, is)) = (same p q (copied_pair alike s t u one_pair p q of_s of_t two is)).checked.accepted.0 accepted
    by (inr (not_two, tried)) =
        let g = upgrade_gained s u.upgrade.units.units t.units (inr (not_two, tried)) in
        let a = gained_pair alike s t u one_pair p q of_s of_t not_two g in
        let text : Grammar = with_fences p.text q.text.fences in
        let xml : Grammar = with_fences p.xml q.xml.fences in
        let text_alike : G.AreAlike text q.text = fenced_alike p.text q.text a.text in
        let xml_alike : G.AreAlike xml q.xml = fenced_alike p.xml q.xml a.xml in
        (checked text xml q.text q.xml text_alike xml_alike).accepted.0
        (stays p.text p.xml text xml (gains p.text q.text.fences a.text.fences sound.text.built (proper_text alike s t u one_pair p q of_s of_t g a)) (gains p.xml q.xml.fences a.xml.fences sound.xml.built (proper_xml alike s t u one_pair p q of_s of_t g a)) (filled p.text sound.text) (filled p.xml sound.xml)
        accepted (light_back text q.text text_alike (mean text q.text text_alike).suspects light_text) (light_back xml q.xml xml_alike (mean xml q.xml xml_alike).suspects light_xml))
