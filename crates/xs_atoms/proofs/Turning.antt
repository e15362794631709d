-- How often classes turn up to a symbol.
use Rattle.std.proofs.Common.{◌≡◌, ◌≢◌, ◌∙◌, ◌↔◌, ◌⊎◌, ℕ, zero, suc, ◌+◌, ◌<◌, ◌≤◌, Bool, true, false, not, List, [], ◌∷◌, ◌++◌, length, take, get_or, append_assoc, Some, None, refl, sym, ap, inl, inr, arith, nat_le}
use Rattle.std.proofs.lemmas.Bool.Decides.{nat_tests}
use Rattle.std.proofs.lemmas.List.{take_more, length-take-le}
use Rattle.std.proofs.lemmas.Option.{get_or_from_slice_get, slice_get_within}
use Rattle.std.proofs.lemmas.List.Sums.{sum_by-append, sum_by-cons}
use Rattle.std.proofs.lemmas.List.Sorted.{sum_by-IsPermutation}
use Rattle.std.specs.Prelude.{slice_get, sum_by, IsTrue, Option, IsPermutation}
use Rattle.xs_class.specs.Classes.{Has, IsClass, RisesFrom}
use Rattle.xs_atoms.specs.declared.turns.Turn.{Turn}
use Rattle.xs_atoms.specs.Turns.{odd, flip, flips, at_symbol, range_turns, class_turns, AreTurnsOf}

pub le_false : (m n : ℕ) → n < m → nat_le m n ≡ false
le_false m n h = grind (arith, nat_tests)

-- what two turns and more count
two_more : (f : Turn → ℕ) (t u : Turn) (ts : List Turn) → sum_by f (t ∷ u ∷ ts) ≡ f t + (f u + sum_by f ts)
two_more f t u ts = sum_by-cons f t (u ∷ ts) ∙ ap (λ n. f t + n) (sum_by-cons f u ts)

-- a turn of the class counts up to a symbol exactly from its place on
flip_from : (c s n : ℕ) → n ≤ s → flip c s (record { place = n; class = Some c }) ≡ 1
flip_from c s n h = grind (arith, nat_tests)

flip_before : (c s n : ℕ) → s < n → flip c s (record { place = n; class = Some c }) ≡ 0
flip_before c s n h = grind (arith, nat_tests)

flip_other : (c s n m : ℕ) → m ≢ c → flip c s (record { place = n; class = Some m }) ≡ 0
flip_other c s n m h = grind (arith, nat_tests)

others_none : (c s m : ℕ) (rs : List (ℕ × ℕ)) → m ≢ c → flips c s (range_turns (Some m) rs) ≡ 0
others_none c s m [] h = refl
others_none c s m (r ∷ rs) h = two_more (flip c s) (record { place = r.0; class = Some m }) (record { place = r.1 + 1; class = Some m }) (range_turns (Some m) rs) ∙ omega (arith, flip_other c s r.0 m h, flip_other c s (r.1 + 1) m h, others_none c s m rs h)

kept_none : (c s : ℕ) (rs : List (ℕ × ℕ)) → flips c s (range_turns None rs) ≡ 0
kept_none c s [] = refl
kept_none c s (r ∷ rs) = two_more (flip c s) (record { place = r.0; class = None }) (record { place = r.1 + 1; class = None }) (range_turns None rs) ∙ omega (arith, kept_none c s rs)

later_none : (c s low : ℕ) (rs : List (ℕ × ℕ)) → RisesFrom low rs → s < low → flips c s (range_turns (Some c) rs) ≡ 0
later_none c s low [] r h = refl
later_none c s low (x ∷ rs) r h =
    two_more (flip c s) (record { place = x.0; class = Some c }) (record { place = x.1 + 1; class = Some c }) (range_turns (Some c) rs) ∙ omega (arith, flip_before c s x.0 (omega arith), flip_before c s (x.1 + 1) (omega arith), later_none c s (x.1 + 2) rs r.3 (omega arith))

odd_more : (n : ℕ) → odd (n + 2) ≡ odd n
odd_more n = let e : n + 2 ≡ suc (suc n) = omega arith in rw e (not_not (odd n))
  where
    not_not : (b : Bool) → not (not b) ≡ b
    not_not true = refl
    not_not false = refl

no_later : (s low : ℕ) (rs : List (ℕ × ℕ)) → RisesFrom low rs → s < low → Has rs s → ⊥
no_later s low [] r h m = m
no_later s low (x ∷ rs) r h (inl i) = absurd (omega arith)
no_later s low (x ∷ rs) r h (inr m) = no_later s (x.1 + 2) rs r.3 (omega arith) m

pub below_or : (m n : ℕ) → (m < n) ⊎ (n ≤ m)
below_or m zero = inr (omega arith)
below_or zero (suc n) = inl (omega arith)
below_or (suc m) (suc n) = elim (below_or m n) [ inl h ↦ inl (omega arith) | inr h ↦ inr (omega arith) ]

-- ranges that rise have a symbol where their class turned an odd number of times up to it
pub ranges_odd : (c s low : ℕ) (rs : List (ℕ × ℕ)) → RisesFrom low rs → IsTrue (odd (flips c s (range_turns (Some c) rs))) ↔ Has rs s
ranges_odd c s low [] r = (λ t. cc, λ m. absurd m)
ranges_odd c s low (x ∷ rs) r = elim (below_or s x.0) [
  | inl before ↦
      let none : flips c s (range_turns (Some c) (x ∷ rs)) ≡ 0 = later_none c s x.0 (x ∷ rs) (omega arith, r.1, r.2, r.3) before in
      (λ t. absurd (off (rw none at t)), λ m. absurd (no_later s x.0 (x ∷ rs) (omega arith, r.1, r.2, r.3) before m))
  | inr begun ↦ elim (below_or x.1 s) [
    | inl after ↦
        let two : flips c s (range_turns (Some c) (x ∷ rs)) ≡ flips c s (range_turns (Some c) rs) + 2 = here ∙ omega (arith, flip_from c s x.0 begun, flip_from c s (x.1 + 1) (omega arith)) in
        let same : odd (flips c s (range_turns (Some c) (x ∷ rs))) ≡ odd (flips c s (range_turns (Some c) rs)) = ap (λ n. odd n) two ∙ odd_more (flips c s (range_turns (Some c) rs)) in
        let rest = ranges_odd c s (x.1 + 2) rs r.3 in
        (λ t. inr (rest.0 (sym same ∙ t)), λ m. elim m [ inl i ↦ absurd (omega arith) | inr h ↦ same ∙ rest.1 h ])
    | inr within ↦
        let one : flips c s (range_turns (Some c) (x ∷ rs)) ≡ 1 = here ∙ omega (arith, flip_from c s x.0 begun, flip_before c s (x.1 + 1) (omega arith), later_none c s (x.1 + 2) rs r.3 (omega arith)) in
        (λ t. inl (begun, within), λ m. ap (λ n. odd n) one)
  ]
]
  where
    here : flips c s (range_turns (Some c) (x ∷ rs)) ≡ flip c s (record { place = x.0; class = Some c }) + (flip c s (record { place = x.1 + 1; class = Some c }) + flips c s (range_turns (Some c) rs))
    here = two_more (flip c s) (record { place = x.0; class = Some c }) (record { place = x.1 + 1; class = Some c }) (range_turns (Some c) rs)

    off : IsTrue (odd 0) → ⊥
    off t = cc

-- the turns of a class among those of all
class_flips_before : (c s n : ℕ) (classes : List (List (ℕ × ℕ))) → c < n → flips c s (class_turns n classes) ≡ 0
class_flips_before c s n [] h = refl
class_flips_before c s n (x ∷ classes) h =
    sum_by-append (flip c s) (range_turns (Some n) x) (class_turns (n + 1) classes) ∙ omega (arith, others_none c s n x (omega arith), class_flips_before c s (n + 1) classes (omega arith))

class_flips : (c s n k : ℕ) (classes : List (List (ℕ × ℕ))) (class : List (ℕ × ℕ)) → c ≡ n + k → slice_get classes k ≡ Some class → flips c s (class_turns n classes) ≡ flips c s (range_turns (Some c) class)
class_flips c s n k [] class e h = cc
class_flips c s n zero (x ∷ classes) class e h =
    let same : n ≡ c = omega arith in
    let is : x ≡ class = of_some x class h in
    sum_by-append (flip c s) (range_turns (Some n) x) (class_turns (n + 1) classes)
    ∙ omega (arith, class_flips_before c s (n + 1) classes (omega arith), ap (λ m. flips c s (range_turns (Some m) x)) same, ap (λ (y : List (ℕ × ℕ)). flips c s (range_turns (Some c) y)) is)
  where
    of_some : (x y : List (ℕ × ℕ)) → Some x ≡ Some y → x ≡ y
    of_some x y e = cc
class_flips c s n (suc k) (x ∷ classes) class e h =
    sum_by-append (flip c s) (range_turns (Some n) x) (class_turns (n + 1) classes)
    ∙ omega (arith, others_none c s n x (omega arith), class_flips c s (n + 1) k classes class (omega arith) h)

at_from : (s : ℕ) (t : Turn) → t.place ≡ s → at_symbol s t ≡ 1
at_from s t e = grind (arith, nat_tests)

kept_at : (s : ℕ) (rs : List (ℕ × ℕ)) → ((r : ℕ × ℕ) → (i : ℕ) → slice_get rs i ≡ Some r → r.0 ≡ r.1) → Has rs s → 0 < sum_by (at_symbol s) (range_turns None rs)
kept_at s [] one m = absurd m
kept_at s (x ∷ rs) one (inl i) =
    let same : x.0 ≡ x.1 = one x 0 refl in
    omega (arith, at_from s (record { place = x.0; class = None }) (omega arith), two_more (at_symbol s) (record { place = x.0; class = None }) (record { place = x.1 + 1; class = None }) (range_turns None rs))
kept_at s (x ∷ rs) one (inr m) = omega (arith, two_more (at_symbol s) (record { place = x.0; class = None }) (record { place = x.1 + 1; class = None }) (range_turns None rs), kept_at s rs (λ r i e. one r (suc i) e) m)

-- the turns of fixed symbols and of classes, in any order
pub turns_are : (classes : List (List (ℕ × ℕ))) (fixed : List (ℕ × ℕ)) (made sorted : List Turn) → ((c : ℕ) (class : List (ℕ × ℕ)) → slice_get classes c ≡ Some class → IsClass class) → made ≡ range_turns None fixed ++ class_turns 0 classes → IsPermutation made sorted → AreTurnsOf classes fixed sorted
turns_are classes fixed made sorted formed e p = record {
  members = λ c s class at.
      let all : flips c s sorted ≡ flips c s (range_turns (Some c) class) =
      sum_by-IsPermutation (flip c s) made sorted p ∙ ap (λ (ts : List Turn). flips c s ts) e
      ∙ sum_by-append (flip c s) (range_turns None fixed) (class_turns 0 classes)
      ∙ omega (arith, kept_none c s fixed, class_flips c s 0 c classes class (omega arith) at) in
      let odd_all : odd (flips c s sorted) ≡ odd (flips c s (range_turns (Some c) class)) = ap (λ n. odd n) all in
      let h = ranges_odd c s 0 class (formed c class at) in
      (λ t. h.0 (sym odd_all ∙ t), λ m. odd_all ∙ h.1 m);
  kept = λ s m one.
      let all : sum_by (at_symbol s) sorted ≡ sum_by (at_symbol s) (range_turns None fixed) + sum_by (at_symbol s) (class_turns 0 classes) =
      sum_by-IsPermutation (at_symbol s) made sorted p ∙ ap (λ (ts : List Turn). sum_by (at_symbol s) ts) e
      ∙ sum_by-append (at_symbol s) (range_turns None fixed) (class_turns 0 classes) in
      omega (arith, kept_at s fixed one m);
}

range_turns-append : (class : Option ℕ) (xs ys : List (ℕ × ℕ)) → range_turns class (xs ++ ys) ≡ range_turns class xs ++ range_turns class ys
range_turns-append class [] ys = refl
range_turns-append class (r ∷ xs) ys = ap (λ (ts : List Turn). record { place = r.0; class = class } ∷ record { place = r.1 + 1; class = class } ∷ ts) (range_turns-append class xs ys)

class_turns-append : (n m : ℕ) (xs ys : List (List (ℕ × ℕ))) → m ≡ n + length xs → class_turns n (xs ++ ys) ≡ class_turns n xs ++ class_turns m ys
class_turns-append n m [] ys e = ap (λ k. class_turns k ys) (omega (arith, e))
class_turns-append n m (x ∷ xs) ys e =
    ap (λ (ts : List Turn). range_turns (Some n) x ++ ts) (class_turns-append (n + 1) m xs ys (omega (arith, e)))
    ∙ sym (append_assoc (range_turns (Some n) x) (class_turns (n + 1) xs) (class_turns m ys))

-- the turns with those of one range more
pub span_pushed : (class : Option ℕ) (turns mid new old : List Turn) (rs : List (ℕ × ℕ)) (i : ℕ) (d : ℕ × ℕ) (a b : ℕ) → i < length rs → a ≡ (get_or rs i d).0 → b ≡ (get_or rs i d).1 → turns ≡ old ++ range_turns class (take i rs) → mid ≡ turns ++ record { place = a; class = class } ∷ [] → new ≡ mid ++ record { place = b + 1; class = class } ∷ [] → new ≡ old ++ range_turns class (take (i + 1) rs)
span_pushed class turns mid new old rs i d a b l ea eb before e f =
    let two : new ≡ turns ++ record { place = a; class = class } ∷ record { place = b + 1; class = class } ∷ [] =
    f ∙ ap (λ (ts : List Turn). ts ++ record { place = b + 1; class = class } ∷ []) e ∙ append_assoc turns (record { place = a; class = class } ∷ []) (record { place = b + 1; class = class } ∷ []) in
    two ∙ ap (λ (ts : List Turn). ts ++ record { place = a; class = class } ∷ record { place = b + 1; class = class } ∷ []) before
    ∙ append_assoc old (range_turns class (take i rs)) (record { place = a; class = class } ∷ record { place = b + 1; class = class } ∷ [])
    ∙ ap (λ (ts : List Turn). old ++ ts)
    (ap (λ x. range_turns class (take i rs) ++ record { place = x; class = class } ∷ record { place = b + 1; class = class } ∷ []) ea
    ∙ ap (λ x. range_turns class (take i rs) ++ record { place = (get_or rs i d).0; class = class } ∷ record { place = x + 1; class = class } ∷ []) eb
    ∙ sym (ap (λ (x : List (ℕ × ℕ)). range_turns class x) (take_more rs i d l) ∙ range_turns-append class (take i rs) (get_or rs i d ∷ [])))

-- and with those of one class more
pub class_pushed : (turns new old : List Turn) (classes : List (List (ℕ × ℕ))) (i : ℕ) (class : List (ℕ × ℕ)) → slice_get classes i ≡ Some class → turns ≡ old ++ class_turns 0 (take i classes) → new ≡ turns ++ range_turns (Some i) class → new ≡ old ++ class_turns 0 (take (i + 1) classes)
class_pushed turns new old classes i class at before e =
    let l = slice_get_within classes i class at in
    let there : class ≡ get_or classes i class = sym (get_or_from_slice_get classes i class class at) in
    e ∙ ap (λ (ts : List Turn). ts ++ range_turns (Some i) class) before ∙ append_assoc old (class_turns 0 (take i classes)) (range_turns (Some i) class)
    ∙ ap (λ (ts : List Turn). old ++ ts)
    (ap (λ (x : List (ℕ × ℕ)). class_turns 0 (take i classes) ++ range_turns (Some i) x) there
    ∙ sym (ap (λ (x : List (List (ℕ × ℕ))). class_turns 0 x) (take_more classes i class l) ∙ class_turns-append 0 i (take i classes) (get_or classes i class ∷ []) (omega (arith, length-take-le i classes (omega arith))) ∙ ap (λ (ts : List Turn). class_turns 0 (take i classes) ++ ts) (no_more (range_turns (Some i) (get_or classes i class)))))
  where
    no_more : (ts : List Turn) → ts ++ [] ≡ ts
    no_more [] = refl
    no_more (t ∷ ts) = ap (λ (u : List Turn). t ∷ u) (no_more ts)
