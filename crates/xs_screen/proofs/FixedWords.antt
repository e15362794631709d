-- Where all items before a cut, or all after it, are fixed words, nothing overlaps there.
use Rattle.std.proofs.Common.{◌≡◌, ℕ, zero, suc, ◌+◌, ◌<◌, ◌≤◌, List, [], ◌∷◌, ◌++◌, length, length-append, refl, sym, ap, subst, ◌∙◌, inl, inr, arith, append_assoc}
use Rattle.std.proofs.lemmas.Bool.{cases_eq}
use Rattle.std.proofs.lemmas.Option.{same_Some, slice_get_within}
use Rattle.std.specs.declared.option.Option.TheVariants.{Some}
use Rattle.std.specs.List.{slice_get}
use Rattle.xs_class.proofs.Lists.{get_left}
use Rattle.xs_gram.specs.declared.parts.GItem.{GItem}
use Rattle.xs_gram.specs.declared.parts.GItem.TheVariants.{Fixed, Term, Non, Skip}
use Rattle.xs_gram.specs.Grammar.{Grammar}
use Rattle.xs_gram.specs.Fences.{spread, grouped, IsCut, cut_here, cut_inside}
use Rattle.xs_gram.specs.Loose.{LooseItem, loose_fixed, IsLoose, loose_none, loose_then, loose_group}
use Rattle.xs_screen.specs.Fixed.{IsFixed}
use Rattle.xs_screen.specs.Screens.{OverlapNowhere}

-- each item is a fixed word
abbrev AreFixed : List GItem → Type 0
AreFixed is = (k : ℕ) (i : GItem) → slice_get is k ≡ Some i → IsFixed i

-- so is each before place c, or from place c on
abbrev pub AreFixedBefore : List GItem → ℕ → Type 0
AreFixedBefore is c = (k : ℕ) (i : GItem) → k < c → slice_get is k ≡ Some i → IsFixed i

abbrev pub AreFixedFrom : List GItem → ℕ → Type 0
AreFixedFrom is c = (k : ℕ) (i : GItem) → c ≤ k → slice_get is k ≡ Some i → IsFixed i

-- the fixed words of items, joined
abbrev word_of : List GItem → List ℕ
word_of [] = []
word_of (Fixed f ∷ is) = f ++ word_of is
word_of (Term t s ∷ is) = word_of is
word_of (Non m s ∷ is) = word_of is
word_of (Skip k ∷ is) = word_of is

word_append : (is js : List GItem) → word_of (is ++ js) ≡ word_of is ++ word_of js
word_append [] js = refl
word_append (Fixed f ∷ is) js = ap (λ (w : List ℕ). f ++ w) (word_append is js) ∙ sym (append_assoc f (word_of is) (word_of js))
word_append (Term t s ∷ is) js = word_append is js
word_append (Non m s ∷ is) js = word_append is js
word_append (Skip k ∷ is) js = word_append is js

-- what stands in the second of two lists
pub get_right : {A : Type 0} (xs ys : List A) (k m : ℕ) → m ≡ length xs + k → slice_get (xs ++ ys) m ≡ slice_get ys k
get_right [] ys k m e = ap (λ (n : ℕ). slice_get ys n) (omega (arith, e))
get_right (x ∷ xs) ys k zero e = absurd (omega (arith, e))
get_right (x ∷ xs) ys k (suc m) e = get_right xs ys k m (omega (arith, e))

-- the one loose word of a stretch of fixed words
module _ (g : Grammar) where
  item_word : (i : GItem) {u : List ℕ} (is : List GItem) → LooseItem g i u → IsFixed i → word_of (i ∷ is) ≡ u ++ word_of is
  item_word (Fixed f) is loose_fixed fixed = refl
  item_word (Term t s) is loose fixed = absurd fixed
  item_word (Non m s) is loose fixed = absurd fixed
  item_word (Skip k) is loose fixed = absurd fixed

  one_word : {is : List GItem} {w : List ℕ} → IsLoose g is w → AreFixed is → w ≡ word_of is
  one_word loose_none fixed = refl
  one_word (loose_then {i = i} {is = is} {u = u} {v = v} plain item rest split) fixed =
      split ∙ ap (λ (x : List ℕ). u ++ x) (one_word rest (λ k j e. fixed (suc k) j e)) ∙ sym (item_word i is item (fixed 0 i refl))
  one_word {is = is} {w = w} (loose_group {l = l} {r = r} {inside = inside} {after = after} {u = u} {v = v} fence within rest split word) fixed =
      let all : AreFixed (grouped l inside r after) = subst (λ (x : List GItem). AreFixed x) split fixed in
      let one : u ≡ word_of inside = one_word within (λ k j e. all (suc k) j (get_left inside (Fixed (r ∷ []) ∷ after) k j e)) in
      let two : v ≡ word_of after = one_word rest (λ k j e. all (suc (length inside + suc k)) j (get_right inside (Fixed (r ∷ []) ∷ after) (suc k) (length inside + suc k) refl ∙ e)) in
      word ∙ ap (λ (x : List ℕ). l ∷ (x ++ r ∷ v)) one ∙ ap (λ (x : List ℕ). l ∷ (word_of inside ++ r ∷ x)) two ∙ sym (ap (λ (x : List ℕ). l ∷ x) (word_append inside (Fixed (r ∷ []) ∷ after))) ∙ sym (ap word_of split)

-- the items of the front stand before the cut, and those of the rest after it
front_fixed : {fs : List (ℕ × ℕ)} {is front rest : List GItem} {c : ℕ} → IsCut fs is c front rest → AreFixedBefore is c → AreFixed front
front_fixed {front = front} {rest = rest} (cut_here a b split place) fixed k i e =
    fixed k i (omega (arith, place, slice_get_within front k i e)) (ap (λ (x : List GItem). slice_get x k) split ∙ get_left front rest k i e)
front_fixed (cut_inside {before = before} {inside = inside} {l = l} {r = r} {k = m} after level fence cut split place) fixed j x at =
    front_fixed cut (λ k i low e. fixed (length before + suc k) i (omega (arith, place, low)) (ap (λ (x : List GItem). slice_get x (length before + suc k)) split ∙ get_right before (grouped l inside r after) (suc k) (length before + suc k) refl ∙ get_left inside (Fixed (r ∷ []) ∷ after) k i e)) j x at

rest_fixed : {fs : List (ℕ × ℕ)} {is front rest : List GItem} {c : ℕ} → IsCut fs is c front rest → AreFixedFrom is c → AreFixed rest
rest_fixed {front = front} {rest = rest} (cut_here a b split place) fixed k i e =
    fixed (length front + k) i (omega (arith, place)) (ap (λ (x : List GItem). slice_get x (length front + k)) split ∙ get_right front rest k (length front + k) refl ∙ e)
rest_fixed (cut_inside {before = before} {inside = inside} {l = l} {r = r} {k = m} after level fence cut split place) fixed j x at =
    rest_fixed cut (λ k i low e. fixed (length before + suc k) i (omega (arith, place, low)) (ap (λ (x : List GItem). slice_get x (length before + suc k)) split ∙ get_right before (grouped l inside r after) (suc k) (length before + suc k) refl ∙ get_left inside (Fixed (r ∷ []) ∷ after) k i e)) j x at

pub fixed_front : (g : Grammar) (p c : ℕ) → AreFixedBefore (spread g p) c → OverlapNowhere g p c
fixed_front g p c fixed x a y h =
    let all = front_fixed h.cut fixed in
    let same : x ++ a ≡ x = one_word g h.overlap.long_front all ∙ sym (one_word g h.overlap.short_front all) in
    omega (arith, ap length same, length-append x a, h.overlap.some)

pub fixed_rest : (g : Grammar) (p c : ℕ) → AreFixedFrom (spread g p) c → OverlapNowhere g p c
fixed_rest g p c fixed x a y h =
    let all = rest_fixed h.cut fixed in
    let same : a ++ y ≡ y = one_word g h.overlap.long_rest all ∙ sym (one_word g h.overlap.short_rest all) in
    omega (arith, ap length same, length-append a y, h.overlap.some)

-- one item more
pub before_more : (is : List GItem) (c : ℕ) (i : GItem) → slice_get is c ≡ Some i → IsFixed i → AreFixedBefore is c → AreFixedBefore is (c + 1)
before_more is c i at fixed all k j low e = elim (cases_eq k c) [
  | inl same ↦ subst (λ (x : GItem). IsFixed x) (same_Some _ _ (sym at ∙ sym (ap (λ (n : ℕ). slice_get is n) same) ∙ e)) fixed
  | inr other ↦ all k j (omega arith) e
]

pub from_less : (is : List GItem) (c : ℕ) (i : GItem) → slice_get is c ≡ Some i → IsFixed i → AreFixedFrom is (c + 1) → AreFixedFrom is c
from_less is c i at fixed all k j low e = elim (cases_eq k c) [
  | inl same ↦ subst (λ (x : GItem). IsFixed x) (same_Some _ _ (sym at ∙ sym (ap (λ (n : ℕ). slice_get is n) same) ∙ e)) fixed
  | inr other ↦ all k j (omega arith) e
]

-- past the end there is none
pub from_end : (is : List GItem) (c : ℕ) → length is ≤ c → AreFixedFrom is c
from_end is c end k i low e = let h = slice_get_within is k i e in absurd (omega arith)
