-- A list that is sorted by a test, or by comparing numbers one after the other, rises.
use Rattle.std.proofs.Common.{◌≡◌, ℕ, zero, suc, ◌+◌, ◌-◌, ◌<◌, ◌≤◌, List, length, Bool, true, false, refl, sym, subst, arith, inl, inr, ◌⊎◌}
use Rattle.std.proofs.lemmas.Bool.{cases_Bool}
use Rattle.std.specs.Prelude.{slice_index_or}
use Rattle.std.specs.declared.cmp.Ordering.{Ordering}
use Rattle.std.specs.declared.cmp.Ordering.TheVariants.{Less, Equal, Greater}
use Rattle.std.specs.Ordering.{nat_cmp, ordering_then, MatchOrdering}
use Rattle.std.specs.Cmp.{ranks, IsStrictWeakOrder}
use Rattle.std.specs.List.Sorted.{IsSortedBy}
use Rattle.xs_forest_laws.specs.declared.span.SpanKey.{SpanKey}
use Rattle.xs_forest_laws.specs.Order.{IsLess}
use Rattle.xs_forest_laws.specs.Forest.{no_row}
use Rattle.xs_forest_laws.specs.Placed.{key_in}

false_true : (b : Bool) → b ≡ false → b ≡ true → ⊥
false_true b e h = cc

-- nothing is less than what stands before it
pub sorted_rises : {X : Type 0} (lt : X → X → Bool) → IsStrictWeakOrder lt → (xs : List X) (d : X) → IsSortedBy lt xs → (s t : ℕ) → s ≤ t → t < length xs → lt (slice_index_or xs t d) (slice_index_or xs s d) ≡ false
sorted_rises lt order xs d sorted s t le below =
    let e : s + (t - s) ≡ t = omega arith in
    subst (λ z. lt (slice_index_or xs z d) (slice_index_or xs s d) ≡ false) e (from (t - s) (omega arith))
  where
    from : (k : ℕ) → s + k < length xs → lt (slice_index_or xs (s + k) d) (slice_index_or xs s d) ≡ false
    from zero h =
        let e : s + 0 ≡ s = omega arith in
        subst (λ z. lt (slice_index_or xs z d) (slice_index_or xs s d) ≡ false) (sym e) (elim (cases_Bool (lt (slice_index_or xs s d) (slice_index_or xs s d))) [
          | inl is ↦ order.one_way (slice_index_or xs s d) (slice_index_or xs s d) is
          | inr is ↦ is
        ])
    from (suc k) h =
        let e : s + k + 1 ≡ s + suc k = omega arith in
        let step = subst (λ z. lt (slice_index_or xs z d) (slice_index_or xs (s + k) d) ≡ false) e (sorted (s + k) d (omega arith) (omega arith)) in
        order.chain (slice_index_or xs (s + suc k) d) (slice_index_or xs (s + k) d) (slice_index_or xs s d) step (from k (omega arith))

-- labels that are sorted by a test that says what is less in the order
pub labels_rise : (place : SpanKey → List ℕ) (lt : SpanKey → SpanKey → Bool) → IsStrictWeakOrder lt → ((x y : SpanKey) → IsLess (place x) (place y) → lt x y ≡ true) → (ks : List SpanKey) → IsSortedBy lt ks → (s t : ℕ) → s ≤ t → t < length ks → IsLess (place (key_in ks t)) (place (key_in ks s)) → ⊥
labels_rise place lt order tells ks sorted s t le below less =
    false_true (lt (key_in ks t) (key_in ks s)) (sorted_rises lt order ks no_row.0 sorted s t le below) (tells (key_in ks t) (key_in ks s) less)

less_cmp : (x y : ℕ) → x < y → nat_cmp x y ≡ Less
less_cmp x y lt = go (nat_cmp x y) (ranks x y)
  where
    go : (o : Ordering) → MatchOrdering o (x < y) (x ≡ y) (y < x) → o ≡ Less
    go Less h = refl
    go Equal h = absurd (omega arith)
    go Greater h = absurd (omega arith)

same_cmp : (x y : ℕ) → x ≡ y → nat_cmp x y ≡ Equal
same_cmp x y e = go (nat_cmp x y) (ranks x y)
  where
    go : (o : Ordering) → MatchOrdering o (x < y) (x ≡ y) (y < x) → o ≡ Equal
    go Less h = absurd (omega arith)
    go Equal h = refl
    go Greater h = absurd (omega arith)

-- numbers are compared one after the other
pub then_less : (x y : ℕ) (rest : Ordering) → (x < y) ⊎ ((x ≡ y) × (rest ≡ Less)) → ordering_then (nat_cmp x y) rest ≡ Less
then_less x y rest (inl lt) = rw (less_cmp x y lt) refl
then_less x y rest (inr (e, is)) = rw (same_cmp x y e, is) refl
