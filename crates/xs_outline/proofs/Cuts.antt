-- A text cut at the first of a symbol.
use Rattle.std.proofs.Common.{◌≡◌, ◌≢◌, ℕ, zero, suc, ◌+◌, ◌<◌, List, [], ◌∷◌, ◌++◌, length, take, drop, get_or, Some, add-one, sym, ap, ◌∙◌, subst, refl, arith}
use Rattle.std.specs.Prelude.{slice_get}
use Rattle.std.proofs.lemmas.Option.{same_Some, none-some}
use Rattle.xs_outline.specs.Lines.{Lacks}
use Rattle.xs_outline.specs.Reading.{NoName}
use Rattle.xs_outline.proofs.Spelling.{first_same}

lacks_next : (c : ℕ) (w : List ℕ) (i x : ℕ) → i < length w → x ≡ get_or w i x → x ≢ c → Lacks c (take i w) → Lacks c (take (suc i) w)
lacks_next c [] i x lt is other lacks = absurd (omega (arith, lt))
lacks_next c (y ∷ w) zero x lt is other lacks = (λ e. other (is ∙ e), tt)
lacks_next c (y ∷ w) (suc i) x lt is other lacks = (lacks.0, lacks_next c w i x (omega (arith, lt)) is other lacks.1)

pub lacks_more : (c : ℕ) (w : List ℕ) (i x : ℕ) → i < length w → x ≡ get_or w i x → x ≢ c → Lacks c (take i w) → Lacks c (take (i + 1) w)
lacks_more c w i x lt is other lacks = subst (λ n. Lacks c (take n w)) (sym (add-one i)) (lacks_next c w i x lt is other lacks)

-- a text with the symbol at a place
cut_after : (c : ℕ) (w : List ℕ) (i : ℕ) → slice_get w i ≡ Some c → w ≡ take i w ++ c ∷ drop (suc i) w
cut_after c [] i at = absurd (none-some c at)
cut_after c (x ∷ w) zero at = ap (λ z. z ∷ w) (same_Some x c at)
cut_after c (x ∷ w) (suc i) at = ap (λ z. x ∷ z) (cut_after c w i at)

pub cut_there : (c : ℕ) (w : List ℕ) (i : ℕ) → slice_get w i ≡ Some c → w ≡ take i w ++ c ∷ drop (i + 1) w
cut_there c w i at = cut_after c w i at ∙ ap (λ n. take i w ++ c ∷ drop n w) (sym (add-one i))

pub lacks_apart : (c : ℕ) (a b : List ℕ) → Lacks c (a ++ b) → Lacks c a × Lacks c b
lacks_apart c [] b lacks = (tt, lacks)
lacks_apart c (x ∷ a) b lacks = let rest = lacks_apart c a b lacks.1 in ((lacks.0, rest.0), rest.1)

-- no space at all
pub no_name_all : (w : List ℕ) → Lacks 32 w → NoName w
no_name_all w lacks name rest feed is = (lacks_apart 32 name (32 ∷ rest) (subst (Lacks 32) is lacks)).1.0 refl

-- no space before an LF
pub no_name_feed : (w : List ℕ) (i x : ℕ) → Lacks 32 (take i w) → i < length w → x ≡ get_or w i x → x ≡ 10 → NoName w
no_name_feed [] i x lacks lt at feed name rest none is = absurd (omega (arith, lt))
no_name_feed (y ∷ w) zero x lacks lt at feed [] rest none is = let also = (first_same y 32 w rest is).0 in omega (arith, at, feed, also)
no_name_feed (y ∷ w) zero x lacks lt at feed (z ∷ name) rest none is = none.0 (sym (first_same y z w (name ++ 32 ∷ rest) is).0 ∙ sym at ∙ feed)
no_name_feed (y ∷ w) (suc i) x lacks lt at feed [] rest none is = lacks.0 (first_same y 32 w rest is).0
no_name_feed (y ∷ w) (suc i) x lacks lt at feed (z ∷ name) rest none is = no_name_feed w i x lacks.1 (omega (arith, lt)) at feed name rest none.1 (first_same y z w (name ++ 32 ∷ rest) is).1
