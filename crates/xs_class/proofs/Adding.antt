-- One more range at the end of sorted ranges.
use Rattle.std.proofs.Common.{◌≡◌, ◌∙◌, ◌<◌, ◌≤◌, ◌+◌, ◌-◌, ◌^◌, ◌⊎◌, ◌↔◌, ◌++◌, inl, inr, ap, sym, subst, ℕ, List, [], ◌∷◌, length, get_or, take, set, max, arith}
use Rattle.std.proofs.lemmas.Bool.{cases_lt}
use Rattle.std.proofs.lemmas.List.{take_all, take_more, take_more_set, length-set}
use Rattle.xs_class.specs.Classes.{IsIn, Has, RisesFrom, IsClass, BeginBy, IsAdded}

pub has_append : (xs ys : List (ℕ × ℕ)) (s : ℕ) → Has (xs ++ ys) s ↔ (Has xs s ⊎ Has ys s)
has_append xs ys s = (parts xs, elim_both xs)
  where
    parts : (xs : List (ℕ × ℕ)) → Has (xs ++ ys) s → Has xs s ⊎ Has ys s
    parts [] h = inr h
    parts (x ∷ xs) (inl h) = inl (inl h)
    parts (x ∷ xs) (inr h) = elim (parts xs h) [ inl left ↦ inl (inr left) | inr right ↦ inr right ]

    elim_both : (xs : List (ℕ × ℕ)) → Has xs s ⊎ Has ys s → Has (xs ++ ys) s
    elim_both [] (inl h) = absurd h
    elim_both [] (inr h) = h
    elim_both (x ∷ xs) (inl (inl h)) = inl h
    elim_both (x ∷ xs) (inl (inr h)) = inr (elim_both xs (inl h))
    elim_both (x ∷ xs) (inr h) = inr (elim_both xs (inr h))

pub has_push : (xs : List (ℕ × ℕ)) (r : ℕ × ℕ) (s : ℕ) → Has (xs ++ r ∷ []) s ↔ (Has xs s ⊎ IsIn r s)
has_push xs r s =
    let both = has_append xs (r ∷ []) s in (
      λ h. elim (both.0 h) [ inl left ↦ inl left | inr right ↦ elim right [ inl one ↦ inr one | inr none ↦ absurd none ] ],
      λ h. elim h [ inl left ↦ both.1 (inl left) | inr right ↦ both.1 (inr (inl right)) ],
    )

-- each of the ranges ends at least two below the number
abbrev pub EndBefore : ℕ → List (ℕ × ℕ) → Type 0
EndBefore n [] = Unit {0}
EndBefore n (r ∷ rs) = (r.1 + 2 ≤ n) × EndBefore n rs

pub rises_push : (low : ℕ) (xs : List (ℕ × ℕ)) (r : ℕ × ℕ) → RisesFrom low xs → EndBefore r.0 xs → low ≤ r.0 → r.0 ≤ r.1 → r.1 < 2 ^ 32 → RisesFrom low (xs ++ r ∷ [])
rises_push low [] r up before from order bound = (from, order, bound, tt)
rises_push low (x ∷ xs) r up before from order bound = (up.0, up.1, up.2, rises_push (x.1 + 2) xs r up.3 before.1 before.0 order bound)

-- what is known of sorted ranges and the last of them
pub record IsFront (low : ℕ) (xs : List (ℕ × ℕ)) (r : ℕ × ℕ) : Type 0 where
  pub rises : RisesFrom low xs
  pub before : EndBefore r.0 xs
  pub from : low ≤ r.0
  pub order : r.0 ≤ r.1
  pub bound : r.1 < 2 ^ 32

pub front_of : (low : ℕ) (xs : List (ℕ × ℕ)) (r : ℕ × ℕ) → RisesFrom low (xs ++ r ∷ []) → IsFront low xs r
front_of low [] r up = record { rises = tt; before = tt; from = up.0; order = up.1; bound = up.2 }
front_of low (x ∷ xs) r up =
    let rest : IsFront (x.1 + 2) xs r = front_of (x.1 + 2) xs r up.3 in
    let near : x.1 + 2 ≤ r.0 = rest.from in
    let first : low ≤ x.0 = up.0 in
    let inside : x.0 ≤ x.1 = up.1 in
    record { rises = (up.0, up.1, up.2, rest.rises); before = (near, rest.before); from = omega arith; order = rest.order; bound = rest.bound }

pub begin_push : (n : ℕ) (xs : List (ℕ × ℕ)) (r : ℕ × ℕ) → BeginBy n xs → r.0 ≤ n → BeginBy n (xs ++ r ∷ [])
begin_push n [] r h l = (l, tt)
begin_push n (x ∷ xs) r h l = (h.0, begin_push n xs r h.1 l)

pub begin_front : (n : ℕ) (xs : List (ℕ × ℕ)) (r : ℕ × ℕ) → BeginBy n (xs ++ r ∷ []) → BeginBy n xs × (r.0 ≤ n)
begin_front n [] r h = (tt, h.0)
begin_front n (x ∷ xs) r h = let rest = begin_front n xs r h.1 in ((h.0, rest.0), rest.1)

pub begin_later : (n m : ℕ) (xs : List (ℕ × ℕ)) → BeginBy n xs → n ≤ m → BeginBy m xs
begin_later n m [] h l = tt
begin_later n m (x ∷ xs) h l =
    let first : x.0 ≤ n = h.0 in (omega arith, begin_later n m xs h.1 l)

pub end_later : (n m : ℕ) (xs : List (ℕ × ℕ)) → EndBefore n xs → n ≤ m → EndBefore m xs
end_later n m [] h l = tt
end_later n m (x ∷ xs) h l =
    let first : x.1 + 2 ≤ n = h.0 in (omega arith, end_later n m xs h.1 l)

pub end_push : (n : ℕ) (xs : List (ℕ × ℕ)) (r : ℕ × ℕ) → EndBefore n xs → r.1 + 2 ≤ n → EndBefore n (xs ++ r ∷ [])
end_push n [] r h l = (l, tt)
end_push n (x ∷ xs) r h l = (h.0, end_push n xs r h.1 l)

-- a reversed range adds nothing
pub added_none : (old : List (ℕ × ℕ)) (r : ℕ × ℕ) → IsClass old → BeginBy r.0 old → r.1 < r.0 → IsAdded old r old
added_none old r up begun none = record {
  sorted = up;
  begun = begun;
  members = λ s. (λ h. inl h, λ h. elim h [ inl left ↦ left | inr right ↦ absurd (omega (arith, right.0, right.1)) ]);
}

pub added_apart : (old : List (ℕ × ℕ)) (r : ℕ × ℕ) → IsClass old → EndBefore r.0 old → BeginBy r.0 old → r.0 ≤ r.1 → r.1 < 2 ^ 32 → IsAdded old r (old ++ r ∷ [])
added_apart old r up before begun order bound = record {
  sorted = rises_push 0 old r up before (omega arith) order bound;
  begun = begin_push r.0 old r begun (omega arith);
  members = λ s. has_push old r s;
}

-- two ranges that meet or touch have what the range over both has
hull : (last r : ℕ × ℕ) (s : ℕ) → last.0 ≤ r.0 → r.0 ≤ last.1 + 1 → IsIn (last.0, max last.1 r.1) s ↔ (IsIn last s ⊎ IsIn r s)
hull last r s begun near = (
  λ h. elim (cases_lt last.1 s) [
    | inl after ↦ inr (omega (arith, h.0), omega (arith, h.1))
    | inr upto ↦ inl (h.0, upto)
  ],
  λ h. elim h [
    | inl one ↦ (one.0, omega (arith, one.1))
    | inr two ↦ (omega (arith, two.0), omega (arith, two.1))
  ],
)

pub added_joined : (front : List (ℕ × ℕ)) (last r : ℕ × ℕ) → IsClass (front ++ last ∷ []) → BeginBy r.0 (front ++ last ∷ []) → r.0 ≤ r.1 → r.1 < 2 ^ 32 → r.0 ≤ last.1 + 1 → IsAdded (front ++ last ∷ []) r (front ++ (last.0, max last.1 r.1) ∷ [])
added_joined front last r up begun order bound near =
    let known : IsFront 0 front last = front_of 0 front last up in
    let starts = begin_front r.0 front last begun in
    let inside : last.0 ≤ last.1 = known.order in
    let high : last.1 < 2 ^ 32 = known.bound in
    record {
      sorted = rises_push 0 front (last.0, max last.1 r.1) known.rises known.before known.from (omega arith) (omega arith);
      begun = begin_push r.0 front (last.0, max last.1 r.1) starts.0 starts.1;
      members = λ s. regroup s starts.1;
    }
  where
    regroup : (s : ℕ) → last.0 ≤ r.0 → Has (front ++ (last.0, max last.1 r.1) ∷ []) s ↔ (Has (front ++ last ∷ []) s ⊎ IsIn r s)
    regroup s starts =
        let new = has_push front (last.0, max last.1 r.1) s in
        let old = has_push front last s in
        let both = hull last r s starts near in (
          λ h. elim (new.0 h) [
            | inl one ↦ inl (old.1 (inl one))
            | inr wide ↦ elim (both.0 wide) [ inl was ↦ inl (old.1 (inr was)) | inr more ↦ inr more ]
          ],
          λ h. elim h [
            | inl was ↦ elim (old.0 was) [ inl one ↦ new.1 (inl one) | inr at ↦ new.1 (inr (both.1 (inl at))) ]
            | inr more ↦ new.1 (inr (both.1 (inr more)))
          ],
        )

-- a list is its front and its last element, also after that one is replaced
pub front_last : (xs : List (ℕ × ℕ)) (n : ℕ) (last : ℕ × ℕ) → n ≡ length xs → 0 < n → last ≡ get_or xs (n - 1) last → xs ≡ take (n - 1) xs ++ last ∷ []
front_last xs n last len some is =
    sym (take_all (n - 1 + 1) xs (omega arith)) ∙ take_more xs (n - 1) last (omega arith)
    ∙ ap (λ (r : ℕ × ℕ). take (n - 1) xs ++ r ∷ []) (sym is)

pub front_new : (xs : List (ℕ × ℕ)) (n : ℕ) (new : ℕ × ℕ) → n ≡ length xs → 0 < n → set xs (n - 1) new ≡ take (n - 1) xs ++ new ∷ []
front_new xs n new len some =
    sym (take_all (n - 1 + 1) (set xs (n - 1) new) (omega (arith, length-set xs (n - 1) new)))
    ∙ take_more_set xs (n - 1) new (omega arith)

-- the last range is widened
pub added_in_place : (old : List (ℕ × ℕ)) (n : ℕ) (last r : ℕ × ℕ) (m : ℕ) → n ≡ length old → 0 < n → last ≡ get_or old (n - 1) last → IsClass old → BeginBy r.0 old → r.0 ≤ r.1 → r.1 < 2 ^ 32 → r.0 ≤ last.1 + 1 → m ≡ max last.1 r.1 → IsAdded old r (set old (n - 1) (last.0, m))
added_in_place old n last r m len some is up begun order bound near most =
    let parts = front_last old n last len some is in
    rw (front_new old n (last.0, m) len some, most) (
    let P : List (ℕ × ℕ) → Type 0 = λ l. IsAdded l r (take (n - 1) old ++ (last.0, max last.1 r.1) ∷ []) in
    subst P (sym parts) (added_joined (take (n - 1) old) last r (subst IsClass parts up) (subst (BeginBy r.0) parts begun) order bound (omega arith))
    )

-- a range after the last one
pub added_after : (old : List (ℕ × ℕ)) (n : ℕ) (last r : ℕ × ℕ) → n ≡ length old → 0 < n → last ≡ get_or old (n - 1) last → IsClass old → BeginBy r.0 old → r.0 ≤ r.1 → r.1 < 2 ^ 32 → last.1 + 1 < r.0 → IsAdded old r (old ++ r ∷ [])
added_after old n last r len some is up begun order bound far =
    let parts = front_last old n last len some is in
    let known : IsFront 0 (take (n - 1) old) last = front_of 0 (take (n - 1) old) last (subst IsClass parts up) in
    let inside : last.0 ≤ last.1 = known.order in
    let before : EndBefore r.0 (take (n - 1) old ++ last ∷ []) = end_push r.0 (take (n - 1) old) last (end_later last.0 r.0 _ known.before (omega arith)) (omega arith) in
    added_apart old r up (subst (EndBefore r.0) (sym parts) before) begun order bound
