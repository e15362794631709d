-- Quoted strings as they are written, one character after another.
use Rattle.std.proofs.Common.{◌≡◌, ℕ, ◌<◌, Bool, true, false, ◌||◌, nat_lt, ◌==◌, List, [], ◌∷◌, ◌++◌, map, append_assoc, Result, Ok, Err, OnOk, refl, sym, ap, ◌∙◌, arith, eqb-true}
use Rattle.std.proofs.lemmas.Bool.Decides.{nat_tests}
use Rattle.std.proofs.lemmas.List.{map-append}
use Rattle.xs_lex.specs.Units.{QuotedUnit, spelt_quoted_unit, spelt_quoted}
use Rattle.xs_lex.proofs.QuotedLaws.{unit_front, units_front}
use Rattle.xs_sheet.specs.Layout.{is_control, unit_of, quoted}

pub control_low : (c : ℕ) → is_control c ≡ true → c < 128
unfolding is_control
control_low c is = by (nat_lt c 32) (c == 127) refl refl is
  where
    by : (t u : Bool) → nat_lt c 32 ≡ t → (c == 127) ≡ u → (t || u) ≡ true → c < 128
    by true u e f h = grind (arith, nat_tests)
    by false true e f h = let same = eqb-true c 127 f in omega arith
    by false false e f h = absurd (cc)

units_push : (us : List QuotedUnit) (u : QuotedUnit) → spelt_quoted (us ++ u ∷ []) [] ≡ spelt_quoted us [] ++ spelt_quoted_unit u []
units_push [] u = refl
units_push (v ∷ us) u =
    unit_front v (spelt_quoted (us ++ u ∷ []) []) ∙ ap (λ (z : List ℕ). spelt_quoted_unit v [] ++ z) (units_push us u) ∙ sym (append_assoc (spelt_quoted_unit v []) (spelt_quoted us []) (spelt_quoted_unit u [])) ∙ ap (λ (z : List ℕ). z ++ spelt_quoted_unit u []) (sym (unit_front v (spelt_quoted us [])))

-- one more character of a string
pub page_more : (old page new cs : List ℕ) (c : ℕ) → page ≡ old ++ spelt_quoted (map unit_of cs) [] → new ≡ page ++ spelt_quoted_unit (unit_of c) [] → new ≡ old ++ spelt_quoted (map unit_of (cs ++ c ∷ [])) []
page_more old page new cs c so_far is =
    is ∙ ap (λ (z : List ℕ). z ++ spelt_quoted_unit (unit_of c) []) so_far ∙ append_assoc old (spelt_quoted (map unit_of cs) []) (spelt_quoted_unit (unit_of c) []) ∙ ap (λ (z : List ℕ). old ++ z) (sym (units_push (map unit_of cs) (unit_of c)) ∙ ap (λ (us : List QuotedUnit). spelt_quoted us []) (sym (map-append unit_of cs (c ∷ []))))

same_map : (cs : List ℕ) → map (λ c. c) cs ≡ cs
same_map [] = refl
same_map (c ∷ cs) = ap (λ (z : List ℕ). c ∷ z) (same_map cs)

-- the whole string
pub page_quoted : (old begun page new cs text : List ℕ) → map (λ c. c) cs ≡ text → begun ≡ old ++ 34 ∷ [] → page ≡ begun ++ spelt_quoted (map unit_of cs) [] → new ≡ page ++ 34 ∷ [] → new ≡ old ++ quoted text
page_quoted old begun page new cs text all first so_far last =
    let whole : cs ≡ text = sym (same_map cs) ∙ all in
    let us = map unit_of cs in
    last ∙ ap (λ (z : List ℕ). z ++ 34 ∷ []) (so_far ∙ ap (λ (z : List ℕ). z ++ spelt_quoted us []) first) ∙ append_assoc (old ++ 34 ∷ []) (spelt_quoted us []) (34 ∷ []) ∙ append_assoc old (34 ∷ []) (spelt_quoted us [] ++ 34 ∷ []) ∙ ap (λ (z : List ℕ). old ++ 34 ∷ z) (sym (units_front us (34 ∷ []))) ∙ ap (λ (z : List ℕ). old ++ quoted z) whole

pub on_ok : {T E : Type 0} (r : Result T E) (A B : Type 0) → (A → B) → OnOk r A → OnOk r B
on_ok (Ok x) A B f a = f a
on_ok (Err e) A B f a = tt
