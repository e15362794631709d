-- What the loops over sorted ranges keep.
use Rattle.std.proofs.Common.{◌≡◌, ◌∙◌, ◌<◌, ◌≤◌, ◌+◌, ◌-◌, ◌^◌, ◌⊎◌, ◌↔◌, inl, inr, sym, subst, ℕ, suc, zero, List, [], ◌∷◌, length, get_or, take, drop, max, min, arith, IsPermutation, Result, Ok, Err, IfOk}
use Rattle.std.specs.List.{Contains}
use Rattle.std.specs.List.Sorted.{IsNonDecreasingBy}
use Rattle.std.proofs.lemmas.Bool.{cases_lt}
use Rattle.std.proofs.lemmas.List.{take_all, take_more, drop_more, drop_all, get_or_default}
use Rattle.std.proofs.lemmas.List.Elements.{Contains-get_or}
use Rattle.std.proofs.lemmas.List.Sorted.{Contains-permutation, IsPermutation-sym}
use Rattle.xs_class.specs.Classes.{IsIn, Has, HaveSame, RisesFrom, IsClass, BeginBy, IsAdded}
use Rattle.xs_class.proofs.Members.{IsAt, place_of_member, member_at_place, ends_before, is_in_order}
use Rattle.xs_class.proofs.Adding.{has_push, begin_later}

-- in another order the ranges have the same symbols
moved_has : (xs ys : List (ℕ × ℕ)) (s : ℕ) → IsPermutation xs ys → Has xs s → Has ys s
moved_has xs ys s moved h =
    let at : (k : ℕ) × IsAt xs s k = place_of_member xs s h in
    let r : ℕ × ℕ = get_or xs at.0 (0, 0) in
    let there : Contains ys r = Contains-permutation xs ys r moved (Contains-get_or xs at.0 (0, 0) at.1.0) in
    contained_has ys r s there (at.1.1, at.1.2)
  where
    contained_has : (ys : List (ℕ × ℕ)) (r : ℕ × ℕ) (s : ℕ) → Contains ys r → IsIn r s → Has ys s
    contained_has ys r s there h =
        let same : get_or ys there.0 (0, 0) ≡ r = get_or_default ys there.0 (0, 0) r there.1 ∙ there.2 in
        let inside : IsIn (get_or ys there.0 (0, 0)) s = subst (λ (q : ℕ × ℕ). IsIn q s) (sym same) h in
        member_at_place ys s there.0 (there.1, inside.0, inside.1)

pub same_permuted : (xs ys : List (ℕ × ℕ)) → IsPermutation xs ys → HaveSame xs ys
same_permuted xs ys moved s = (moved_has xs ys s moved, moved_has ys xs s (IsPermutation-sym xs ys moved))

pub same_through : {E : Type 0} (r : Result (List (ℕ × ℕ)) E) (xs ys : List (ℕ × ℕ)) → HaveSame ys xs → IfOk r (λ c. HaveSame c xs) → IfOk r (λ c. HaveSame c ys)
same_through (Ok c) xs ys same h = λ s. (λ k. (same s).1 ((h s).0 k), λ k. (h s).1 ((same s).0 k))
same_through (Err e) xs ys same h = h

-- the first i of the sorted ranges are joined
pub record IsJoined (ranges : List (ℕ × ℕ)) (i : ℕ) (out : List (ℕ × ℕ)) : Type 0 where
  pub sorted : IsClass out
  pub begun : (k : ℕ) → i ≤ k → k < length ranges → BeginBy (get_or ranges k (0, 0)).0 out
  pub members : HaveSame out (take i ranges)

pub joined_none : (ranges : List (ℕ × ℕ)) → IsJoined ranges 0 []
joined_none ranges = record { sorted = tt; begun = λ k l h. tt; members = λ s. (λ h. h, λ h. h) }

pub joined_more : (ranges : List (ℕ × ℕ)) (i : ℕ) (out new : List (ℕ × ℕ)) → IsNonDecreasingBy (λ (r : ℕ × ℕ). r.0) ranges → i < length ranges → IsJoined ranges i out → IsAdded out (get_or ranges i (0, 0)) new → IsJoined ranges (i + 1) new
joined_more ranges i out new up within so_far added = record {
  sorted = added.sorted;
  begun = λ k l h. begin_later (get_or ranges i (0, 0)).0 (get_or ranges k (0, 0)).0 new added.begun (up i k (0, 0) (omega arith) h);
  members = λ s.
      let was = so_far.members s in
      let now = added.members s in
      let more = has_push (take i ranges) (get_or ranges i (0, 0)) s in
      rw (take_more ranges i (0, 0) within) (
        λ h. elim (now.0 h) [ inl old ↦ more.1 (inl (was.0 old)) | inr one ↦ more.1 (inr one) ],
        λ h. elim (more.0 h) [ inl old ↦ now.1 (inl (was.1 old)) | inr one ↦ now.1 (inr one) ],
      );
}

pub joined_all : (ranges : List (ℕ × ℕ)) (i : ℕ) (out : List (ℕ × ℕ)) → length ranges ≤ i → IsJoined ranges i out → HaveSame out ranges
joined_all ranges i out all so_far = subst (HaveSame out) (take_all i ranges all) so_far.members

-- a member of ranges that rise from low on is at least low
pub member_above : (low : ℕ) (rs : List (ℕ × ℕ)) (s : ℕ) → RisesFrom low rs → Has rs s → low ≤ s
member_above low [] s up h = absurd h
member_above low (r ∷ rs) s up (inl h) =
    let from : low ≤ r.0 = up.0 in omega (arith, h.0)
member_above low (r ∷ rs) s up (inr h) =
    let from : low ≤ r.0 = up.0 in
    let order : r.0 ≤ r.1 = up.1 in
    omega (arith, member_above (r.1 + 2) rs s up.3 h)

pub member_bound : (low : ℕ) (rs : List (ℕ × ℕ)) (s : ℕ) → RisesFrom low rs → Has rs s → s < 2 ^ 32
member_bound low [] s up h = absurd h
member_bound low (r ∷ rs) s up (inl h) = let bound : r.1 < 2 ^ 32 = up.2 in omega (arith, h.1)
member_bound low (r ∷ rs) s up (inr h) = member_bound (r.1 + 2) rs s up.3 h

pub rises_later : (low to : ℕ) (rs : List (ℕ × ℕ)) → RisesFrom low rs → to ≤ low → RisesFrom to rs
rises_later low to [] up l = tt
rises_later low to (r ∷ rs) up l = let from : low ≤ r.0 = up.0 in (omega arith, up.1, up.2, up.3)

pub rises_drop : (low : ℕ) (rs : List (ℕ × ℕ)) (k : ℕ) → RisesFrom low rs → RisesFrom low (drop k rs)
rises_drop low rs zero up = up
rises_drop low [] (suc k) up = tt
rises_drop low (r ∷ rs) (suc k) up =
    let from : low ≤ r.0 = up.0 in
    let order : r.0 ≤ r.1 = up.1 in
    rises_later (r.1 + 2) low (drop k rs) (rises_drop (r.1 + 2) rs k up.3) (omega arith)

pub has_drop : (rs : List (ℕ × ℕ)) (k s : ℕ) → Has (drop k rs) s → Has rs s
has_drop rs zero s h = h
has_drop [] (suc k) s h = h
has_drop (r ∷ rs) (suc k) s h = inr (has_drop rs k s h)

-- what the first ranges of two lists have in common, and what is left after the one that ends first
abbrev pub overlap : ℕ × ℕ → ℕ × ℕ → ℕ × ℕ
overlap x y = (max x.0 y.0, min x.1 y.1)

both_in : (x y : ℕ × ℕ) (s : ℕ) → IsIn x s → IsIn y s → IsIn (overlap x y) s
both_in x y s h k = (omega (arith, h.0, k.0), omega (arith, h.1, k.1))

pub meet_left : (x y : ℕ × ℕ) (xs ys : List (ℕ × ℕ)) (s : ℕ) → RisesFrom (y.1 + 2) ys → x.1 ≤ y.1 → (IsIn (overlap x y) s ⊎ (Has xs s × Has (y ∷ ys) s)) ↔ (Has (x ∷ xs) s × Has (y ∷ ys) s)
meet_left x y xs ys s up first = (forth, λ h. back h.0 h.1)
  where
    forth : IsIn (overlap x y) s ⊎ (Has xs s × Has (y ∷ ys) s) → Has (x ∷ xs) s × Has (y ∷ ys) s
    forth (inl h) = (inl (omega (arith, h.0), omega (arith, h.1)), inl (omega (arith, h.0), omega (arith, h.1)))
    forth (inr h) = (inr h.0, h.1)

    back : Has (x ∷ xs) s → Has (y ∷ ys) s → IsIn (overlap x y) s ⊎ (Has xs s × Has (y ∷ ys) s)
    back (inl h) (inl k) = inl (both_in x y s h k)
    back (inl h) (inr k) = absurd (omega (arith, h.1, member_above (y.1 + 2) ys s up k))
    back (inr h) (inl k) = inr (h, inl k)
    back (inr h) (inr k) = inr (h, inr k)

-- a range begins after each earlier one
next_begins : (rs : List (ℕ × ℕ)) (k : ℕ) → IsClass rs → k + 1 < length rs → (get_or rs k (0, 0)).0 ≤ (get_or rs (k + 1) (0, 0)).0
next_begins rs k up h = omega (arith, ends_before 0 rs k (k + 1) up (omega arith) h, is_in_order 0 rs k up (omega arith))

-- what the ranges before the places i and j have in common is found
pub record IsMet (a b : List (ℕ × ℕ)) (i j : ℕ) (out : List (ℕ × ℕ)) : Type 0 where
  pub left : i ≤ length a
  pub right : j ≤ length b
  pub sorted : IsClass out
  pub begun : i < length a → j < length b → BeginBy (max (get_or a i (0, 0)).0 (get_or b j (0, 0)).0) out
  pub members : (s : ℕ) → (Has out s ⊎ (Has (drop i a) s × Has (drop j b) s)) ↔ (Has a s × Has b s)

pub met_none : (a b : List (ℕ × ℕ)) → IsMet a b 0 0 []
met_none a b = record {
  left = omega arith;
  right = omega arith;
  sorted = tt;
  begun = λ h k. tt;
  members = λ s. (λ h. elim h [ inl none ↦ absurd none | inr both ↦ both ], λ h. inr h);
}

-- what is found and what is left, where one more range is found and the same is left less that
regrouped : (out new : List (ℕ × ℕ)) (r : ℕ × ℕ) (s : ℕ) (Whole Left Rest : Type 0) → ((Has out s ⊎ Left) ↔ Whole) → (Has new s ↔ (Has out s ⊎ IsIn r s)) → ((IsIn r s ⊎ Rest) ↔ Left) → (Has new s ⊎ Rest) ↔ Whole
regrouped out new r s Whole Left Rest was now parts = (
  λ h. elim h [
    | inl found ↦ elim (now.0 found) [ inl old ↦ was.0 (inl old) | inr one ↦ was.0 (inr (parts.0 (inl one))) ]
    | inr rest ↦ was.0 (inr (parts.0 (inr rest)))
  ],
  λ h. elim (was.1 h) [
    | inl old ↦ inl (now.1 (inl old))
    | inr left ↦ elim (parts.1 left) [ inl one ↦ inl (now.1 (inr one)) | inr rest ↦ inr rest ]
  ],
)

pub met_left : (a b : List (ℕ × ℕ)) (i j : ℕ) (out new : List (ℕ × ℕ)) → IsClass a → IsClass b → i < length a → j < length b → IsMet a b i j out → IsAdded out (overlap (get_or a i (0, 0)) (get_or b j (0, 0))) new → (get_or a i (0, 0)).1 ≤ (get_or b j (0, 0)).1 → IsMet a b (i + 1) j new
met_left a b i j out new one two within inside so_far added first =
    let x : ℕ × ℕ = get_or a i (0, 0) in
    let y : ℕ × ℕ = get_or b j (0, 0) in
    let xs : List (ℕ × ℕ) = drop (i + 1) a in
    let ys : List (ℕ × ℕ) = drop (j + 1) b in
    let dropped : drop i a ≡ x ∷ xs = drop_more a i (0, 0) within in
    let other : drop j b ≡ y ∷ ys = drop_more b j (0, 0) inside in
    let up : RisesFrom 0 (y ∷ ys) = subst (RisesFrom 0) other (rises_drop 0 b j two) in
    record {
      left = omega arith;
      right = omega arith;
      sorted = added.sorted;
      begun = λ h k. begin_later (max x.0 y.0) _ new added.begun (let later = next_begins a i one h in omega arith);
      members = λ s. regrouped out new (overlap x y) s (Has a s × Has b s) (Has (drop i a) s × Has (drop j b) s) (Has xs s × Has (drop j b) s) (so_far.members s) (added.members s) (rw (dropped, other) (meet_left x y xs ys s up.3 first));
    }

-- what two lists have in common does not depend on which of them comes first
met_swapped : (a b : List (ℕ × ℕ)) (i j : ℕ) (out : List (ℕ × ℕ)) → IsMet a b i j out → IsMet b a j i out
met_swapped a b i j out h = record {
  left = h.right;
  right = h.left;
  sorted = h.sorted;
  begun = λ k l. begin_later _ _ out (h.begun l k) (omega arith);
  members = λ s.
      let was = h.members s in (
        λ k. swapped (was.0 (elim k [ inl found ↦ inl found | inr left ↦ inr (swapped left) ])),
        λ k. elim (was.1 (swapped k)) [ inl found ↦ inl found | inr left ↦ inr (swapped left) ],
      );
}
  where
    swapped : {P Q : Type 0} → P × Q → Q × P
    swapped both = (both.1, both.0)

overlap_swapped : (x y : ℕ × ℕ) → overlap x y ≡ overlap y x
overlap_swapped x y =
    let from : max x.0 y.0 ≡ max y.0 x.0 = omega arith in
    let to : min x.1 y.1 ≡ min y.1 x.1 = omega arith in
    cc

pub met_right : (a b : List (ℕ × ℕ)) (i j : ℕ) (out new : List (ℕ × ℕ)) → IsClass a → IsClass b → i < length a → j < length b → IsMet a b i j out → IsAdded out (overlap (get_or a i (0, 0)) (get_or b j (0, 0))) new → (get_or b j (0, 0)).1 ≤ (get_or a i (0, 0)).1 → IsMet a b i (j + 1) new
met_right a b i j out new one two within inside so_far added first =
    let over : IsAdded out (overlap (get_or b j (0, 0)) (get_or a i (0, 0))) new = rw (overlap_swapped (get_or b j (0, 0)) (get_or a i (0, 0))) added in
    met_swapped b a (j + 1) i new (met_left b a j i out new two one inside within (met_swapped a b i j out so_far) over first)

pub met_all : (a b : List (ℕ × ℕ)) (i j : ℕ) (out : List (ℕ × ℕ)) → IsMet a b i j out → (length a ≤ i) ⊎ (length b ≤ j) → (s : ℕ) → Has out s ↔ (Has a s × Has b s)
met_all a b i j out so_far done s =
    let all = so_far.members s in (
      λ h. all.0 (inl h),
      λ h. elim (all.1 h) [
        | inl found ↦ found
        | inr left ↦ elim done [
          | inl one ↦ absurd (subst (λ l. Has l s) (drop_all i a one) left.0)
          | inr two ↦ absurd (subst (λ l. Has l s) (drop_all j b two) left.1)
        ]
      ],
    )

-- the symbols below next that are in none of the ranges are found, and i ranges lie below next
pub record IsGapped (rs : List (ℕ × ℕ)) (i next : ℕ) (out : List (ℕ × ℕ)) : Type 0 where
  pub sorted : IsClass out
  pub begun : BeginBy next out
  pub rises : RisesFrom next (drop i rs)
  pub bound : next ≤ 2 ^ 32
  pub rest : (s : ℕ) → next ≤ s → Has rs s → Has (drop i rs) s
  pub members : (s : ℕ) → Has out s ↔ ((s < next) × (Has rs s → ⊥))

pub gapped_none : (rs : List (ℕ × ℕ)) → IsClass rs → IsGapped rs 0 0 []
gapped_none rs up = record {
  sorted = tt;
  begun = tt;
  rises = up;
  bound = omega arith;
  rest = λ s l h. h;
  members = λ s. (λ h. absurd h, λ h. absurd (omega (arith, h.0)));
}

-- the ranges after the first are left
rest_after : (rs : List (ℕ × ℕ)) (r : ℕ × ℕ) (more : List (ℕ × ℕ)) (next : ℕ) → next ≤ r.0 → r.0 ≤ r.1 → ((s : ℕ) → next ≤ s → Has rs s → Has (r ∷ more) s) → (s : ℕ) → r.1 + 1 ≤ s → Has rs s → Has more s
rest_after rs r more next from order rest s l h =
    elim (rest s (omega arith) h) [ inl here ↦ absurd (omega (arith, here.1)) | inr later ↦ later ]

no_member_in_gap : (r : ℕ × ℕ) (more : List (ℕ × ℕ)) (s : ℕ) → r.0 ≤ r.1 → RisesFrom (r.1 + 2) more → s < r.0 → Has (r ∷ more) s → ⊥
no_member_in_gap r more s order up l (inl h) = omega (arith, h.0)
no_member_in_gap r more s order up l (inr h) = omega (arith, member_above (r.1 + 2) more s up h)

-- one more range is passed, and the symbols before it that are in none are found too
gapped_past : (rs : List (ℕ × ℕ)) (i next : ℕ) (out new : List (ℕ × ℕ)) → i < length rs → IsGapped rs i next out → IsClass new → BeginBy next new → ((s : ℕ) → Has new s ↔ (Has out s ⊎ ((next ≤ s) × (s < (get_or rs i (0, 0)).0)))) → IsGapped rs (i + 1) ((get_or rs i (0, 0)).1 + 1) new
gapped_past rs i next out new within so_far sorted begun members =
    let r : ℕ × ℕ = get_or rs i (0, 0) in
    let more : List (ℕ × ℕ) = drop (i + 1) rs in
    let dropped : drop i rs ≡ r ∷ more = drop_more rs i (0, 0) within in
    let up : RisesFrom next (r ∷ more) = subst (RisesFrom next) dropped so_far.rises in
    let from : next ≤ r.0 = up.0 in
    let order : r.0 ≤ r.1 = up.1 in
    let high : r.1 < 2 ^ 32 = up.2 in
    let rest : (s : ℕ) → next ≤ s → Has rs s → Has (r ∷ more) s = λ s l h. subst (λ l. Has l s) dropped (so_far.rest s l h) in
    let whole : (s : ℕ) → Has (r ∷ more) s → Has rs s = λ s h. has_drop rs i s (subst (λ l. Has l s) (sym dropped) h) in
    record {
      sorted = sorted;
      begun = begin_later next (r.1 + 1) new begun (omega arith);
      rises = rises_later (r.1 + 2) (r.1 + 1) more up.3 (omega arith);
      bound = omega arith;
      rest = rest_after rs r more next from order rest;
      members = λ s. (
        λ h. elim ((members s).0 h) [
          | inl old ↦ let was = (so_far.members s).0 old in (omega (arith, was.0), was.1)
          | inr gap ↦ (omega (arith, gap.1), λ k. no_member_in_gap r more s order up.3 gap.1 (rest s gap.0 k))
        ],
        λ h. elim (cases_lt s next) [
          | inl before ↦ (members s).1 (inl ((so_far.members s).1 (before, h.1)))
          | inr at ↦ elim (cases_lt s r.0) [
            | inl below ↦ (members s).1 (inr (at, below))
            | inr above ↦ absurd (h.1 (whole s (inl (above, omega (arith, h.0)))))
          ]
        ],
      );
    }

pub gapped_more : (rs : List (ℕ × ℕ)) (i next : ℕ) (out new : List (ℕ × ℕ)) → i < length rs → IsGapped rs i next out → next < (get_or rs i (0, 0)).0 → IsAdded out (next, (get_or rs i (0, 0)).0 - 1) new → IsGapped rs (i + 1) ((get_or rs i (0, 0)).1 + 1) new
gapped_more rs i next out new within so_far room added = gapped_past rs i next out new within so_far added.sorted added.begun (
    λ s. (
      λ h. elim ((added.members s).0 h) [ inl old ↦ inl old | inr gap ↦ inr (gap.0, omega (arith, gap.1)) ],
      λ h. (added.members s).1 (elim h [ inl old ↦ inl old | inr gap ↦ inr (gap.0, omega (arith, gap.1)) ]),
    )
    )

pub gapped_on : (rs : List (ℕ × ℕ)) (i next : ℕ) (out : List (ℕ × ℕ)) → i < length rs → IsGapped rs i next out → (get_or rs i (0, 0)).0 ≤ next → IsGapped rs (i + 1) ((get_or rs i (0, 0)).1 + 1) out
gapped_on rs i next out within so_far shut = gapped_past rs i next out out within so_far so_far.sorted so_far.begun (λ s. (λ h. inl h, λ h. elim h [ inl old ↦ old | inr none ↦ absurd (omega (arith, none.0, none.1)) ]))

none_left : (rs : List (ℕ × ℕ)) (i next : ℕ) (out : List (ℕ × ℕ)) (s : ℕ) → length rs ≤ i → IsGapped rs i next out → next ≤ s → Has rs s → ⊥
none_left rs i next out s all so_far l h = subst (λ l. Has l s) (drop_all i rs all) (so_far.rest s l h)

pub gapped_last : (rs : List (ℕ × ℕ)) (i next : ℕ) (out new : List (ℕ × ℕ)) → length rs ≤ i → IsGapped rs i next out → next < 2 ^ 32 → IsAdded out (next, 4294967295) new → (s : ℕ) → Has new s ↔ ((s < 2 ^ 32) × (Has rs s → ⊥))
gapped_last rs i next out new all so_far room added s = (
  λ h. elim ((added.members s).0 h) [
    | inl old ↦ let was = (so_far.members s).0 old in (omega (arith, was.0), was.1)
    | inr gap ↦ (omega (arith, gap.1), none_left rs i next out s all so_far gap.0)
  ],
  λ h. elim (cases_lt s next) [
    | inl before ↦ (added.members s).1 (inl ((so_far.members s).1 (before, h.1)))
    | inr from ↦ (added.members s).1 (inr (from, omega (arith, h.0)))
  ],
)

pub gapped_full : (rs : List (ℕ × ℕ)) (i next : ℕ) (out : List (ℕ × ℕ)) → IsGapped rs i next out → 2 ^ 32 ≤ next → (s : ℕ) → Has out s ↔ ((s < 2 ^ 32) × (Has rs s → ⊥))
gapped_full rs i next out so_far full s =
    let bound : next ≤ 2 ^ 32 = so_far.bound in (
      λ h. let was = (so_far.members s).0 h in (omega (arith, was.0), was.1),
      λ h. (so_far.members s).1 (omega (arith, h.0), h.1),
    )

-- a class without another is what it has in common with the gaps of the other
pub without_from_gaps : {E : Type 0} (r : Result (List (ℕ × ℕ)) E) (a b gap : List (ℕ × ℕ)) → IsClass a → ((s : ℕ) → Has gap s ↔ ((s < 2 ^ 32) × (Has b s → ⊥))) → IfOk r (λ c. (s : ℕ) → Has c s ↔ (Has a s × Has gap s)) → IfOk r (λ c. (s : ℕ) → Has c s ↔ (Has a s × (Has b s → ⊥)))
without_from_gaps (Ok c) a b gap up gaps h = λ s. (
  λ k. let both = (h s).0 k in (both.0, ((gaps s).0 both.1).1),
  λ k. (h s).1 (k.0, (gaps s).1 (member_bound 0 a s up k.0, k.1)),
)
without_from_gaps (Err e) a b gap up gaps h = h
