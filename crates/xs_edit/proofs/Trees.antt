-- A listing of one derivation of a document of the language has one.
use Rattle.std.proofs.Common.{◌≡◌, ℕ, suc, ◌<◌, List, [], ◌∷◌, ◌++◌, length, Bool, true, false, Option, Some, None, refl, sym, ◌∙◌, ap, subst, arith, inl, inr}
use Rattle.std.specs.Prelude.{slice_get, option_to_list, IsSome}
use Rattle.std.proofs.lemmas.Bool.{cases_lt, false≢true}
use Rattle.xs_gram.specs.Grammar.{Grammar}
use Rattle.xs_gram.specs.Derivations.{Derivation}
use Rattle.xs_gram.specs.Languages.{InLang}
use Rattle.xs_earley.proofs.Steppings.{no_length}
use Rattle.xs_forest_laws.specs.Listing.{IsListed}
use Rattle.xs_listing.specs.declared.spelt.SpeltPart.{SpeltPart}
use Rattle.xs_listing.specs.declared.spelt.Listing.{Listing}
use Rattle.xs_listing.specs.Spelt.{IsSpeltOf, AreSpeltOf, IsListingOf}
use Rattle.xs_edit.specs.Sessions.{IsTreeOf}

-- the last list is that of one of the derivations
last_spelt : (w : List ℕ) (before : List (List SpeltPart)) (s : List SpeltPart) (ds : List Derivation) → AreSpeltOf w (before ++ s ∷ []) ds → (k : ℕ) × (d : Derivation) × (slice_get ds k ≡ Some d) × IsSpeltOf w s d
last_spelt w [] s [] h = absurd h
last_spelt w [] s (d ∷ ds) h = (0, d, refl, h.0)
last_spelt w (t ∷ before) s [] h = absurd h
last_spelt w (t ∷ before) s (d ∷ ds) h = let r = last_spelt w before s ds h.1 in (suc r.0, r.1, r.2, r.3)

-- where there are no lists there are no derivations
no_spelt : (w : List ℕ) (ds : List Derivation) → AreSpeltOf w [] ds → ds ≡ []
no_spelt w [] h = refl
no_spelt w (d ∷ ds) h = absurd h

none_listed : (g : Grammar) (w : List ℕ) (ds : List Derivation) (more : Bool) → IsListed g w 1 ds more → ds ≡ [] → InLang g w → ⊥
none_listed g w ds false listed none h =
    let at = listed.all refl h.0 h.1 in
    no (subst (λ (l : List Derivation). slice_get l at.0 ≡ Some h.0) none at.1)
  where
    no : None ≡ Some h.0 → ⊥
    no e = cc
none_listed g w ds true listed none h =
    let long = (listed.over refl).0 in
    let short = ap (λ (l : List Derivation). length l) none in
    omega (arith, long, short)

pub none_is : (g : Grammar) (w : List ℕ) (l : Listing) → IsListingOf g w 1 l → InLang g w → l.trees ≡ [] → ⊥
none_is g w l is h none = none_listed g w is.derivations l.more is.listed (no_spelt w is.derivations (subst (λ (ts : List (List SpeltPart)). AreSpeltOf w ts is.derivations) none is.spelt)) h

pub last_is : (g : Grammar) (w : List ℕ) (l : Listing) (before : List (List SpeltPart)) (s : List SpeltPart) → IsListingOf g w 1 l → l.trees ≡ before ++ s ∷ [] → IsTreeOf g w (Some s)
last_is g w l before s is split =
    let r = last_spelt w before s is.derivations (subst (λ (ts : List (List SpeltPart)). AreSpeltOf w ts is.derivations) split is.spelt) in
    (r.1, is.listed.derives r.0 r.1 r.2, r.3)

-- so has what is taken from its end
pub popped_is : (g : Grammar) (w : List ℕ) (l : Listing) (trees before : List (List SpeltPart)) (n : ℕ) (o : Option (List SpeltPart)) → IsListingOf g w 1 l → InLang g w → trees ≡ l.trees → n ≡ length trees → trees ≡ before ++ option_to_list o → (0 < n → IsSome o) → IsTreeOf g w o
popped_is g w l trees before n None is h same long split some = absurd (elim (cases_lt 0 n) [
  | inl lt ↦ false≢true (some lt)
  | inr le ↦ none_is g w l is h (sym same ∙ no_length trees (omega (arith, long, le)))
])
popped_is g w l trees before n (Some s) is h same long split some = last_is g w l before s is (sym same ∙ split)
