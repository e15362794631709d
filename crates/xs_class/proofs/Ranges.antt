-- When lists of ranges are the same: by `==`, and, where they are sorted, by their symbols.
use Rattle.std.proofs.Common.{◌≡◌, ◌∙◌, ◌+◌, ◌≤◌, ◌&&◌, inl, inr, ℕ, Bool, List, [], ◌∷◌, eqb, refl, sym, ap, subst, arith}
use Rattle.std.specs.Bool.{Decides}
use Rattle.std.specs.Cmp.Lexicographic.{pointwise}
use Rattle.std.specs.Prelude.{IsTrue}
use Rattle.std.proofs.lemmas.Bool.{cases_lt}
use Rattle.std.proofs.lemmas.Bool.Decides.{Decides-and, Decides-eqb}
use Rattle.std.proofs.lemmas.Slice.Eq.{slice_eq-Decides}
use Rattle.xs_class.specs.Classes.{Has, RisesFrom, IsClass, HaveSame}
use Rattle.xs_class.proofs.Lists.{cons_same}

-- what `==` says of two ranges
same_range : (x y : ℕ × ℕ) → Decides (eqb x.0 y.0 && eqb x.1 y.1) (x ≡ y)
same_range x y =
    let d = Decides-and (eqb x.0 y.0) (eqb x.1 y.1) (Decides-eqb x.0 y.0) (Decides-eqb x.1 y.1) in
    (λ t. ap (λ a. (a, x.1)) (d.0 t).0 ∙ ap (λ b. (y.0, b)) (d.0 t).1, λ e. d.1 (ap (λ z. z.0) e, ap (λ z. z.1) e))

pub same_ranges : (xs ys : List (ℕ × ℕ)) (r : Bool) → r ≡ pointwise (λ x y. eqb x.0 y.0 && eqb x.1 y.1) xs ys → IsTrue r → xs ≡ ys
same_ranges xs ys r e t = (slice_eq-Decides same_range xs ys r e).0 t

-- no symbol lies before the ranges
from_low : (low : ℕ) (rs : List (ℕ × ℕ)) (s : ℕ) → RisesFrom low rs → Has rs s → low ≤ s
from_low low [] s up h = absurd h
from_low low (r ∷ rs) s up (inl here) = omega (arith, up.0, here.0)
from_low low (r ∷ rs) s up (inr later) = let k = from_low (r.1 + 2) rs s up.3 later in omega (arith, up.0, up.1, k)

-- each symbol of the ranges is one of the others
abbrev pub AreIn : List (ℕ × ℕ) → List (ℕ × ℕ) → Type 0
AreIn qs rs = (s : ℕ) → Has qs s → Has rs s

begins_no_later : (low : ℕ) (q r : ℕ × ℕ) (qs rs : List (ℕ × ℕ)) → q.0 ≤ q.1 → RisesFrom low (r ∷ rs) → AreIn (q ∷ qs) (r ∷ rs) → r.0 ≤ q.0
begins_no_later low q r qs rs order up into = elim (into q.0 (inl (omega arith, order))) [
  | inl here ↦ here.0
  | inr later ↦ let k = from_low (r.1 + 2) rs q.0 up.3 later in omega (arith, up.1, k)
]

-- where they begin at one symbol, the first range ends no later: else the symbol after it would be in no range
ends_no_later : (low : ℕ) (q r : ℕ × ℕ) (qs rs : List (ℕ × ℕ)) → q.0 ≡ r.0 → q.0 ≤ q.1 → RisesFrom low (r ∷ rs) → AreIn (q ∷ qs) (r ∷ rs) → q.1 ≤ r.1
ends_no_later low q r qs rs same order up into = elim (cases_lt r.1 q.1) [
  | inl less ↦ elim (into (r.1 + 1) (inl (omega (arith, same, up.1), omega (arith, less)))) [
    | inl here ↦ absurd (omega (arith, here.1))
    | inr later ↦ let k = from_low (r.1 + 2) rs (r.1 + 1) up.3 later in absurd (omega (arith, k))
  ]
  | inr upto ↦ upto
]

-- the symbols after the first range
later_in : (low : ℕ) (q r : ℕ × ℕ) (qs rs : List (ℕ × ℕ)) → q.1 ≡ r.1 → RisesFrom low (q ∷ qs) → AreIn (q ∷ qs) (r ∷ rs) → AreIn qs rs
later_in low q r qs rs same up into s h = elim (into s (inr h)) [
  | inl here ↦ let k = from_low (q.1 + 2) qs s up.3 h in absurd (omega (arith, same, here.1, k))
  | inr later ↦ later
]

range_same : (q r : ℕ × ℕ) → q.0 ≡ r.0 → q.1 ≡ r.1 → q ≡ r
range_same (a, b) (c, d) e f = cc

ranges_same : (low : ℕ) (qs rs : List (ℕ × ℕ)) → RisesFrom low qs → RisesFrom low rs → AreIn qs rs → AreIn rs qs → qs ≡ rs
ranges_same low [] [] up up' into back = refl
ranges_same low [] (r ∷ rs) up up' into back = absurd (back r.0 (inl (omega arith, up'.1)))
ranges_same low (q ∷ qs) [] up up' into back = absurd (into q.0 (inl (omega arith, up.1)))
ranges_same low (q ∷ qs) (r ∷ rs) up up' into back =
    let down = begins_no_later low q r qs rs up.1 up' into in
    let over = begins_no_later low r q rs qs up'.1 up back in
    let begin : q.0 ≡ r.0 = omega (arith, down, over) in
    let short = ends_no_later low q r qs rs begin up.1 up' into in
    let long = ends_no_later low r q rs qs (sym begin) up'.1 up back in
    let end : q.1 ≡ r.1 = omega (arith, short, long) in
    let rest : RisesFrom (q.1 + 2) rs = subst (λ (n : ℕ). RisesFrom (n + 2) rs) (sym end) up'.3 in
    cons_same (range_same q r begin end) (ranges_same (q.1 + 2) qs rs up.3 rest (later_in low q r qs rs end up into) (later_in low r q rs qs (sym end) up' back))

pub one_class : (qs rs : List (ℕ × ℕ)) → IsClass qs → IsClass rs → HaveSame qs rs → qs ≡ rs
one_class qs rs up up' same = ranges_same 0 qs rs up up' (λ s h. (same s).0 h) (λ s h. (same s).1 h)
