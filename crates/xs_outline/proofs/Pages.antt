-- Pages with one more number, or one more character of a quoted string.
use Rattle.std.proofs.Common.{◌≡◌, ℕ, suc, zero, ◌<◌, ◌≤◌, ◌+◌, true, List, [], ◌∷◌, ◌++◌, map, length, drop, get_or, add-one, append_assoc, drop-cons, sym, ap, ◌∙◌, arith}
use Rattle.std.specs.Char.{IsScalar}
use Rattle.std.specs.Str.{all_scalars, chars, IsAscii}
use Rattle.std.proofs.lemmas.Str.{chars-IsAscii}
use Rattle.std.proofs.lemmas.Bool.Decides.{nat_tests}
use Rattle.std.proofs.lemmas.List.{drop_all}
use Rattle.xs_lex.specs.Units.{spelt_quoted_unit, spelt_quoted}
use Rattle.xs_lex.proofs.QuotedLaws.{unit_front}
use Rattle.xs_sheet.specs.Layout.{unit_of, quoted}

pub scalar_at : (w : List ℕ) (i d : ℕ) → all_scalars w ≡ true → i < length w → IsScalar (get_or w i d)
scalar_at [] i d are lt = absurd (omega arith)
scalar_at (c ∷ w) zero d are lt = grind (arith, nat_tests)
scalar_at (c ∷ w) (suc i) d are lt = scalar_at w i d (grind (arith, nat_tests)) (omega arith)

-- what is still to be written of a quoted string
abbrev pub rest_of : List ℕ → List ℕ
rest_of w = spelt_quoted (map unit_of w) (34 ∷ [])

pub page_step : (page new whole w : List ℕ) (i c x : ℕ) → i < length w → x ≡ get_or w i x → c ≡ x → page ++ rest_of (drop i w) ≡ whole → new ≡ page ++ spelt_quoted_unit (unit_of c) [] → new ++ rest_of (drop (i + 1) w) ≡ whole
page_step page new whole w i c x lt is same so_far written =
    let next : drop i w ≡ c ∷ drop (i + 1) w = drop-cons w i x lt ∙ ap (λ z. z ∷ drop (suc i) w) (sym (same ∙ is)) ∙ ap (λ n. c ∷ drop n w) (sym (add-one i)) in
    ap (λ z. z ++ rest_of (drop (i + 1) w)) written
    ∙ append_assoc page (spelt_quoted_unit (unit_of c) []) (rest_of (drop (i + 1) w))
    ∙ ap (λ z. page ++ z) (sym (unit_front (unit_of c) (rest_of (drop (i + 1) w))))
    ∙ ap (λ z. page ++ rest_of z) (sym next) ∙ so_far

-- the whole string
pub page_quoted : (old begun page new w : List ℕ) (i : ℕ) → length w ≤ i → begun ≡ old ++ 34 ∷ [] → page ++ rest_of (drop i w) ≡ begun ++ rest_of w → new ≡ page ++ 34 ∷ [] → new ≡ old ++ quoted w
page_quoted old begun page new w i all first so_far last =
    last ∙ ap (λ z. page ++ rest_of z) (sym (drop_all i w all)) ∙ so_far ∙ ap (λ z. z ++ rest_of w) first ∙ append_assoc old (34 ∷ []) (rest_of w)

pub page_ascii : (old new text digits : List ℕ) → IsAscii text → text ≡ digits → new ≡ old ++ chars text → new ≡ old ++ digits
page_ascii old new text digits ascii same is = is ∙ ap (λ (z : List ℕ). old ++ z) (chars-IsAscii text ascii ∙ same)
