-- Fences after the units of a sheet: names, productions, terminals and ignorables do not see them.
use Rattle.std.proofs.Common.{◌≡◌, ◌⊎◌, ◌∙◌, inl, inr, sym, refl, ap, subst, ℕ, zero, suc, Bool, false, cond, List, [], ◌∷◌, ◌++◌, append-nil, map, filter, Some, slice_get}
use Rattle.std.proofs.lemmas.List.{map-append}
use Rattle.std.proofs.lemmas.List.Elements.{filter-append}
use Rattle.std.proofs.lemmas.Option.{none-some, same_Some}
use Rattle.xs_regex.specs.declared.regex.Regex.{Regex}
use Rattle.xs_gram.specs.declared.parts.SkipPart.{SkipPart}
use Rattle.xs_sheet.specs.declared.unit.Unit.{Unit}
use Rattle.xs_sheet.specs.declared.unit.Unit.TheVariants.{Terminal, Ignorable, Production, Fence}
use Rattle.xs_pair.specs.declared.names.Sort.{Sort}
use Rattle.xs_pair.specs.declared.names.Sort.TheVariants as S
use Rattle.xs_pair.specs.declared.production.Rule.{Rule}
use Rattle.xs_pair.specs.Units.{unit_name, unit_line, is_of, names_of}
use Rattle.xs_pair.specs.Listing.{rule_in, rules_of}
use Rattle.xs_pair.specs.Grammars.{numbering, AreTermsOf, AreSkipsOf}
use Rattle.xs_pair.specs.Verdict.{IsLineWhere}
use Rattle.xs_pair.specs.Upgrades.{fence_of}

module _ (line : ℕ) where
  -- fences of these pairs
  abbrev pub fences : List (ℕ × ℕ) → List Unit
  fences fs = map (fence_of line) fs

  fence_sort : (sort : Sort) (f : ℕ × ℕ) → is_of sort (fence_of line f) ≡ false
  fence_sort S.Any f = refl
  fence_sort S.Lexical f = refl
  fence_sort S.Terminal f = refl
  fence_sort S.Ignorable f = refl
  fence_sort S.Production f = refl

  none_named : (sort : Sort) (fs : List (ℕ × ℕ)) → names_of sort (fences fs) ≡ []
  none_named sort [] = refl
  none_named sort (f ∷ fs) =
      ap (λ (b : Bool). map unit_name (cond b (fence_of line f ∷ filter (is_of sort) (fences fs)) (filter (is_of sort) (fences fs)))) (fence_sort sort f) ∙ none_named sort fs

  pub names_kept : (sort : Sort) (us : List Unit) (fs : List (ℕ × ℕ)) → names_of sort (us ++ fences fs) ≡ names_of sort us
  names_kept sort us fs =
      ap (λ (vs : List Unit). map unit_name vs) (filter-append (is_of sort) us (fences fs)) ∙ map-append unit_name (filter (is_of sort) us) (filter (is_of sort) (fences fs)) ∙ ap (λ (ns : List (List ℕ)). names_of sort us ++ ns) (none_named sort fs) ∙ append-nil (names_of sort us)

  no_rules : (fs : List (ℕ × ℕ)) → rules_of (fences fs) ≡ []
  no_rules [] = refl
  no_rules (f ∷ fs) = no_rules fs

  pub rules_kept : (us : List Unit) (fs : List (ℕ × ℕ)) → rules_of (us ++ fences fs) ≡ rules_of us
  rules_kept [] fs = no_rules fs
  rules_kept (u ∷ us) fs = ap (λ (rs : List Rule). rule_in u ++ rs) (rules_kept us fs)

  pub numbering_kept : (us : List Unit) (fs : List (ℕ × ℕ)) (names : List (List ℕ)) → numbering (us ++ fences fs) names ≡ numbering us names
  numbering_kept us fs names = rw (names_kept S.Terminal us fs, names_kept S.Production us fs, names_kept S.Ignorable us fs) refl

  no_terms : (fs : List (ℕ × ℕ)) (rs : List Regex) → AreTermsOf (fences fs) rs → AreTermsOf [] rs
  no_terms [] rs are = are
  no_terms (f ∷ fs) rs are = no_terms fs rs are

  pub terms_kept : (us : List Unit) (fs : List (ℕ × ℕ)) (rs : List Regex) → AreTermsOf (us ++ fences fs) rs → AreTermsOf us rs
  terms_kept [] fs rs are = no_terms fs rs are
  terms_kept (Terminal n p x l ∷ us) fs [] are = absurd are
  terms_kept (Terminal n p x l ∷ us) fs (r ∷ rs) are = (are.0, terms_kept us fs rs are.1)
  terms_kept (Ignorable n p x m l ∷ us) fs rs are = terms_kept us fs rs are
  terms_kept (Production n a b l ∷ us) fs rs are = terms_kept us fs rs are
  terms_kept (Fence a b l ∷ us) fs rs are = terms_kept us fs rs are

  terms_still : (fs : List (ℕ × ℕ)) (rs : List Regex) → AreTermsOf [] rs → AreTermsOf (fences fs) rs
  terms_still [] rs are = are
  terms_still (f ∷ fs) rs are = terms_still fs rs are

  pub terms_more : (us : List Unit) (fs : List (ℕ × ℕ)) (rs : List Regex) → AreTermsOf us rs → AreTermsOf (us ++ fences fs) rs
  terms_more [] fs rs are = terms_still fs rs are
  terms_more (Terminal n p x l ∷ us) fs [] are = absurd are
  terms_more (Terminal n p x l ∷ us) fs (r ∷ rs) are = (are.0, terms_more us fs rs are.1)
  terms_more (Ignorable n p x m l ∷ us) fs rs are = terms_more us fs rs are
  terms_more (Production n a b l ∷ us) fs rs are = terms_more us fs rs are
  terms_more (Fence a b l ∷ us) fs rs are = terms_more us fs rs are

  no_skips : (fs : List (ℕ × ℕ)) (ks : List SkipPart) → AreSkipsOf (fences fs) ks → AreSkipsOf [] ks
  no_skips [] ks are = are
  no_skips (f ∷ fs) ks are = no_skips fs ks are

  pub skips_kept : (us : List Unit) (fs : List (ℕ × ℕ)) (ks : List SkipPart) → AreSkipsOf (us ++ fences fs) ks → AreSkipsOf us ks
  skips_kept [] fs ks are = no_skips fs ks are
  skips_kept (Terminal n p x l ∷ us) fs ks are = skips_kept us fs ks are
  skips_kept (Ignorable n p x m l ∷ us) fs [] are = absurd are
  skips_kept (Ignorable n p x m l ∷ us) fs (k ∷ ks) are = (are.0, are.1, skips_kept us fs ks are.2)
  skips_kept (Production n a b l ∷ us) fs ks are = skips_kept us fs ks are
  skips_kept (Fence a b l ∷ us) fs ks are = skips_kept us fs ks are

  skips_still : (fs : List (ℕ × ℕ)) (ks : List SkipPart) → AreSkipsOf [] ks → AreSkipsOf (fences fs) ks
  skips_still [] ks are = are
  skips_still (f ∷ fs) ks are = skips_still fs ks are

  pub skips_more : (us : List Unit) (fs : List (ℕ × ℕ)) (ks : List SkipPart) → AreSkipsOf us ks → AreSkipsOf (us ++ fences fs) ks
  skips_more [] fs ks are = skips_still fs ks are
  skips_more (Terminal n p x l ∷ us) fs ks are = skips_more us fs ks are
  skips_more (Ignorable n p x m l ∷ us) fs [] are = absurd are
  skips_more (Ignorable n p x m l ∷ us) fs (k ∷ ks) are = (are.0, are.1, skips_more us fs ks are.2)
  skips_more (Production n a b l ∷ us) fs ks are = skips_more us fs ks are
  skips_more (Fence a b l ∷ us) fs ks are = skips_more us fs ks are

  -- a unit among them is one of the sheet, or a fence
  found : (us : List Unit) (fs : List (ℕ × ℕ)) (k : ℕ) (u : Unit) → slice_get (us ++ fences fs) k ≡ Some u → (slice_get us k ≡ Some u) ⊎ ((f : ℕ × ℕ) × (fence_of line f ≡ u))
  found [] [] k u at = absurd (none-some u at)
  found [] (f ∷ fs) zero u at = inr (f, same_Some (fence_of line f) u at)
  found [] (f ∷ fs) (suc k) u at = found [] fs k u at
  found (v ∷ us) fs zero u at = inl at
  found (v ∷ us) fs (suc k) u at = found us fs k u at

  -- so a rule that does not fail at a fence fails at the same lines
  pub line_kept : (us : List Unit) (fs : List (ℕ × ℕ)) (P Q : ℕ → Unit → Type 0) → ((k : ℕ) (u : Unit) → slice_get us k ≡ Some u → P k u → Q k u) → ((k : ℕ) (f : ℕ × ℕ) → P k (fence_of line f) → ⊥) → (at : ℕ) → IsLineWhere P unit_line (us ++ fences fs) at → IsLineWhere Q unit_line us at
  line_kept us fs P Q kept never at (k, u, there, holds, is) = by (found us fs k u there)
    where
      by : (slice_get us k ≡ Some u) ⊎ ((f : ℕ × ℕ) × (fence_of line f ≡ u)) → IsLineWhere Q unit_line us at
      by (inl old) = (k, u, old, kept k u old holds, is)
      by (inr (f, same)) = absurd (never k f (subst (λ (v : Unit). P k v) (sym same) holds))
