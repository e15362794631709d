-- Marks in the order of their stretches, and the numbers of a label among them.
use Rattle.std.proofs.Common.{◌≡◌, ◌⊎◌, ℕ, zero, suc, ◌<◌, ◌≤◌, Bool, true, false, true≢false, List, [], ◌∷◌, ◌++◌, length, get_or, slice_get, Some, refl, sym, ap, ◌∙◌, subst, arith, inl, inr}
use Rattle.std.specs.Prelude.{Contains, IsPermutation, MatchBool, slice_set, slice_index_or}
use Rattle.std.specs.declared.cmp.Ordering.{Ordering}
use Rattle.std.specs.declared.cmp.Ordering.TheVariants.{Less, Equal, Greater}
use Rattle.std.specs.Ordering.{is_lt, nat_cmp, ordering_then, MatchOrdering}
use Rattle.std.specs.Cmp.{IsTotalOrder}
use Rattle.std.specs.List.Sorted.{IsSortedBy, IsPartitionedBy}
use Rattle.std.specs.List.{swap}
use Rattle.std.proofs.lemmas.Bool.{cases_lt, cases_eq}
use Rattle.std.proofs.lemmas.Cmp.{ranked, nat_cmp_total, on_total, then_total}
use Rattle.std.proofs.lemmas.List.Sorted.{ranks_by, sorted_far, Contains-permutation, IsPermutation-sym, IsPermutation-keeps}
use Rattle.std.proofs.lemmas.Option.{same_Some, slice_get_read, slice_get_within, slice_get-get_or, get_or_from_slice_get}
use Rattle.xs_class.proofs.Lists.{get_of, contains_of}
use Rattle.xs_forest_laws.specs.declared.span.SpanKey.{SpanKey}
use Rattle.xs_grow.specs.Lists.{AreOnce, HasAllOf, Appends}
use Rattle.xs_grow.specs.Sorted.{compare, AreInOrder}
use Rattle.xs_grow.proofs.ListLemmas.{appends_none, appends_one, appends_more, appends_same}

abbrev Mark : Type 0
Mark = SpanKey × ℕ

-- a label ends before another one, or where that ends and begins before it
abbrev IsBefore : SpanKey → SpanKey → Type 0
IsBefore a b = (a.end < b.end) ⊎ ((a.end ≡ b.end) × (a.start < b.start))

before_of : (a b : SpanKey) (o p : Ordering) → MatchOrdering o (a.end < b.end) (a.end ≡ b.end) (b.end < a.end) → MatchOrdering p (a.start < b.start) (a.start ≡ b.start) (b.start < a.start) → is_lt (ordering_then o p) ≡ true → IsBefore a b
before_of a b Less p m n e = inl m
before_of a b Equal Less m n e = inr (m, n)
before_of a b Equal Equal m n e = cc
before_of a b Equal Greater m n e = cc
before_of a b Greater p m n e = cc

test_of : (a b : SpanKey) (o p : Ordering) → MatchOrdering o (a.end < b.end) (a.end ≡ b.end) (b.end < a.end) → MatchOrdering p (a.start < b.start) (a.start ≡ b.start) (b.start < a.start) → IsBefore a b → is_lt (ordering_then o p) ≡ true
test_of a b Less p m n h = refl
test_of a b Equal Less m n h = refl
test_of a b Equal Equal m n (inl lt) = absurd (omega arith)
test_of a b Equal Equal m n (inr (e, lt)) = absurd (omega arith)
test_of a b Equal Greater m n (inl lt) = absurd (omega arith)
test_of a b Equal Greater m n (inr (e, lt)) = absurd (omega arith)
test_of a b Greater p m n (inl lt) = absurd (omega arith)
test_of a b Greater p m n (inr (e, lt)) = absurd (omega arith)

to_before : (a b : SpanKey) → is_lt (compare a b) ≡ true → IsBefore a b
to_before a b e = before_of a b (nat_cmp a.end b.end) (nat_cmp a.start b.start) (ranked a.end b.end (nat_cmp a.end b.end) refl) (ranked a.start b.start (nat_cmp a.start b.start) refl) e

to_test : (a b : SpanKey) → IsBefore a b → is_lt (compare a b) ≡ true
to_test a b h = test_of a b (nat_cmp a.end b.end) (nat_cmp a.start b.start) (ranked a.end b.end (nat_cmp a.end b.end) refl) (ranked a.start b.start (nat_cmp a.start b.start) refl) h

not_before : (a b : SpanKey) → is_lt (compare a b) ≡ false → IsBefore a b → ⊥
not_before a b e h = true≢false (sym (to_test a b h) ∙ e)

not_itself : (a : SpanKey) → is_lt (compare a a) ≡ true → ⊥
not_itself a e = go (to_before a a e)
  where
    go : IsBefore a a → ⊥
    go (inl lt) = absurd (omega arith)
    go (inr (same, lt)) = absurd (omega arith)

pub order : IsTotalOrder (λ (a b : Mark). compare a.0 b.0)
order = then_total (on_total (λ (m : Mark). m.0.end) nat_cmp_total) (on_total (λ (m : Mark). m.0.start) nat_cmp_total)

-- what a sort gives
pub in_order : (marks : List Mark) → IsSortedBy (λ a b. is_lt (compare a.0 b.0)) marks → AreInOrder marks
in_order marks sorted i j x y le at_i at_j =
    let far = sorted_far (λ (a b : Mark). is_lt (compare a.0 b.0)) (ranks_by order (λ (m : Mark). m)) marks sorted i j x le (slice_get_within marks j y at_j) in
    let first : get_or marks i x ≡ x = get_or_from_slice_get marks i x x at_i in
    let second : get_or marks j x ≡ y = get_or_from_slice_get marks j y x at_j in
    sym (ap (λ (z : Mark). is_lt (compare z.0 (get_or marks i x).0)) second ∙ ap (λ (z : Mark). is_lt (compare y.0 z.0)) first) ∙ far

-- marks that come before a label stand first
pub parted : (marks : List Mark) (label : SpanKey) → AreInOrder marks → IsPartitionedBy (λ (m : Mark). is_lt (compare m.0 label)) marks
parted marks label ordered i j d le lt test =
    let x : Mark = get_or marks i d in
    let y : Mark = get_or marks j d in
    let at_i : slice_get marks i ≡ Some x = slice_get-get_or marks i d (omega arith) in
    let at_j : slice_get marks j ≡ Some y = slice_get-get_or marks j d lt in
    to_test x.0 label (go x.0 y.0 (to_before y.0 label test) (not_before y.0 x.0 (ordered i j x y le at_i at_j)) (cases_lt x.0.end label.end) (cases_lt y.0.end x.0.end) (cases_lt y.0.start x.0.start))
  where
    go : (a b : SpanKey) → IsBefore b label → (IsBefore b a → ⊥) → (a.end < label.end) ⊎ (label.end ≤ a.end) → (b.end < a.end) ⊎ (a.end ≤ b.end) → (b.start < a.start) ⊎ (a.start ≤ b.start) → IsBefore a label
    go a b h never (inl less) p q = inl less
    go a b (inl lt) never (inr ge) p q = absurd (never (inl (omega arith)))
    go a b (inr (e, lt)) never (inr ge) (inl less) q = absurd (never (inl less))
    go a b (inr (e, lt)) never (inr ge) (inr low) (inl less) = absurd (never (inr (omega arith, less)))
    go a b (inr (e, lt)) never (inr ge) (inr low) (inr late) = inr (omega arith, omega arith)

-- where the element at place k stood before two were swapped
abbrev IsSwapped : ℕ → ℕ → ℕ → ℕ → Type 0
IsSwapped i j k m = ((k ≡ j) × (m ≡ i)) ⊎ ((k ≡ j → ⊥) × (((k ≡ i) × (m ≡ j)) ⊎ ((k ≡ i → ⊥) × (m ≡ k))))

swapped_once : (i j k l m : ℕ) → IsSwapped i j k m → IsSwapped i j l m → k ≡ l
swapped_once i j k l m (inl a) (inl b) = omega (arith, a, b)
swapped_once i j k l m (inl a) (inr (n, inl b)) = absurd (n (omega (arith, a, b)))
swapped_once i j k l m (inl a) (inr (n, inr b)) = absurd (b.0 (omega (arith, a, b.1)))
swapped_once i j k l m (inr (n, inl a)) (inl b) = absurd (n (omega (arith, a, b)))
swapped_once i j k l m (inr (n, inl a)) (inr (o, inl b)) = omega (arith, a, b)
swapped_once i j k l m (inr (n, inl a)) (inr (o, inr b)) = absurd (o (omega (arith, a, b.1)))
swapped_once i j k l m (inr (n, inr a)) (inl b) = absurd (a.0 (omega (arith, a.1, b)))
swapped_once i j k l m (inr (n, inr a)) (inr (o, inl b)) = absurd (n (omega (arith, a.1, b)))
swapped_once i j k l m (inr (n, inr a)) (inr (o, inr b)) = omega (arith, a.1, b.1)

module _ {X : Type 0} where
  set_same : (xs : List X) (r : ℕ) (v : X) → r < length xs → slice_get (slice_set xs r v) r ≡ Some v
  set_same [] r v lt = absurd (omega arith)
  set_same (x ∷ xs) zero v lt = refl
  set_same (x ∷ xs) (suc r) v lt = set_same xs r v (omega arith)

  set_other : (xs : List X) (r s : ℕ) (v : X) → (s ≡ r → ⊥) → slice_get (slice_set xs r v) s ≡ slice_get xs s
  set_other [] r s v ne = refl
  set_other (x ∷ xs) zero zero v ne = absurd (ne refl)
  set_other (x ∷ xs) zero (suc s) v ne = refl
  set_other (x ∷ xs) (suc r) zero v ne = refl
  set_other (x ∷ xs) (suc r) (suc s) v ne = set_other xs r s v (λ e. ne (ap suc e))

  set_long : (xs : List X) (r : ℕ) (v : X) → length (slice_set xs r v) ≡ length xs
  set_long [] r v = refl
  set_long (x ∷ xs) zero v = refl
  set_long (x ∷ xs) (suc r) v = ap suc (set_long xs r v)

  swap_get : (xs : List X) (i j k : ℕ) (x : X) → i < length xs → j < length xs → slice_get (swap xs i j) k ≡ Some x → (m : ℕ) × (slice_get xs m ≡ Some x) × IsSwapped i j k m
  swap_get [] i j k x lt lt' at = absurd (omega arith)
  swap_get (d ∷ ys) i j k x lt lt' at = go (cases_eq k j)
    where
      a : X
      a = slice_index_or (d ∷ ys) j d

      b : X
      b = slice_index_or (d ∷ ys) i d

      mid : List X
      mid = slice_set (d ∷ ys) i a

      inner : (k ≡ j → ⊥) → (k ≡ i) ⊎ (k ≡ i → ⊥) → slice_get mid k ≡ Some x → (m : ℕ) × (slice_get (d ∷ ys) m ≡ Some x) × IsSwapped i j k m
      inner ne (inl e) there =
          let is : a ≡ x = same_Some a x (sym (set_same (d ∷ ys) i a lt) ∙ (ap (λ z. slice_get mid z) (sym e) ∙ there)) in
          (j, slice_get-get_or (d ∷ ys) j d lt' ∙ ap (λ (z : X). Some z) is, inr (ne, inl (e, refl)))
      inner ne (inr other) there = (k, sym (set_other (d ∷ ys) i k a other) ∙ there, inr (ne, inr (other, refl)))

      go : (k ≡ j) ⊎ (k ≡ j → ⊥) → (m : ℕ) × (slice_get (d ∷ ys) m ≡ Some x) × IsSwapped i j k m
      go (inl e) =
          let long = set_long (d ∷ ys) i a in
          let is : b ≡ x = same_Some b x (sym (set_same mid j b (omega (arith, long, lt'))) ∙ (ap (λ z. slice_get (slice_set mid j b) z) (sym e) ∙ at)) in
          (i, slice_get-get_or (d ∷ ys) i d lt ∙ ap (λ (z : X). Some z) is, inl (e, refl))
      go (inr ne) = inner ne (cases_eq k i) (sym (set_other mid j k b ne) ∙ at)

  swap_once : (xs : List X) (i j : ℕ) → i < length xs → j < length xs → AreOnce xs → AreOnce (swap xs i j)
  swap_once xs i j lt lt' once k l x at_k at_l =
      let m = swap_get xs i j k x lt lt' at_k in
      let n = swap_get xs i j l x lt lt' at_l in
      swapped_once i j k l m.0 m.2 (subst (λ z. IsSwapped i j l z) (sym (once m.0 n.0 x m.1 n.1)) n.2)

  -- a list in another order has all of a fact, each once
  pub all_moved : (P : X → Type 0) (xs ys : List X) → IsPermutation xs ys → HasAllOf P xs → HasAllOf P ys
  all_moved P xs ys moved h = record {
    sound = λ x c. h.sound x (Contains-permutation ys xs x (IsPermutation-sym xs ys moved) c);
    complete = λ x p. Contains-permutation xs ys x moved (h.complete x p);
    once = IsPermutation-keeps xs AreOnce h.once (λ l i j lt lt' o. swap_once l i j lt lt' o) ys moved;
  }

-- a number of the label among the first marks
abbrev pub IsEarlierNumber : List Mark → SpanKey → ℕ → ℕ → Type 0
IsEarlierNumber marks label limit n = (m : ℕ) × (m < limit) × (slice_get marks m ≡ Some (label, n))

module _ (marks : List Mark) (label : SpanKey) where
  pub numbers_none : (k : ℕ) (out : List ℕ) → ((m n : ℕ) → m < k → slice_get marks m ≡ Some (label, n) → ⊥) → Appends (IsEarlierNumber marks label k) out out
  numbers_none k out none = appends_none (IsEarlierNumber marks label k) out (λ n (m, lt, at). none m n lt at)

  -- one mark more, of the label
  pub numbers_here : (k number : ℕ) (other : SpanKey) (old mid new : List ℕ) → AreOnce marks → slice_get marks k ≡ Some (other, number) → other ≡ label → new ≡ mid ++ number ∷ [] → Appends (IsEarlierNumber marks label k) old mid → Appends (IsEarlierNumber marks label (suc k)) old new
  numbers_here k number other old mid new once at same e before =
      let here : slice_get marks k ≡ Some (label, number) = subst (λ (z : SpanKey). slice_get marks k ≡ Some (z, number)) same at in
      appends_more (IsEarlierNumber marks label k) (λ n. number ≡ n) (IsEarlierNumber marks label (suc k)) old mid new before (appends_one (λ n. number ≡ n) mid new number e refl (λ n is. is))
      (λ n (m, lt, there) is. let one = once m k (label, number) (subst (λ z. slice_get marks m ≡ Some (label, z)) (sym is) there) here in absurd (omega arith))
      (λ n (m, lt, there). (m, omega arith, there))
      (λ n is. (k, omega arith, subst (λ z. slice_get marks k ≡ Some (label, z)) is here))
      (λ n (m, lt, there). elim (cases_eq m k) [
        | inl e' ↦ inr (ap (λ (z : Mark). z.1) (same_Some (label, number) (label, n) (sym here ∙ (ap (λ z. slice_get marks z) (sym e') ∙ there))))
        | inr ne ↦ inl (m, omega arith, there)
      ])

  -- or of another one
  pub numbers_other : (k number : ℕ) (other : SpanKey) (old new : List ℕ) → slice_get marks k ≡ Some (other, number) → (other ≡ label → ⊥) → Appends (IsEarlierNumber marks label k) old new → Appends (IsEarlierNumber marks label (suc k)) old new
  numbers_other k number other old new at differs before = appends_same (IsEarlierNumber marks label k) (IsEarlierNumber marks label (suc k)) old new
      (λ n (m, lt, there). (m, omega arith, there))
      (λ n (m, lt, there). elim (cases_eq m k) [
        | inl e ↦ absurd (differs (ap (λ (z : Mark). z.0) (same_Some (other, number) (label, n) (sym at ∙ (ap (λ z. slice_get marks z) (sym e) ∙ there)))))
        | inr ne ↦ (m, omega arith, there)
      ])
      before

  -- where no later mark is of the label, these are all
  pub numbers_all : (k : ℕ) (old new : List ℕ) → ((m n : ℕ) → k ≤ m → slice_get marks m ≡ Some (label, n) → ⊥) → Appends (IsEarlierNumber marks label k) old new → Appends (λ n. Contains marks (label, n)) old new
  numbers_all k old new none before = appends_same (IsEarlierNumber marks label k) (λ n. Contains marks (label, n)) old new
      (λ n (m, lt, there). contains_of marks m (label, n) there)
      (λ n c.
      let at = get_of marks (label, n) c in
      elim (cases_lt at.0 k) [
        | inl lt ↦ (at.0, lt, at.1)
        | inr ge ↦ absurd (none at.0 n ge at.1)
      ])
      before

  -- after a mark that comes after the label none is of the label
  pub none_after : (k : ℕ) (x : Mark) → AreInOrder marks → slice_get marks k ≡ Some x → is_lt (compare label x.0) ≡ true → (m n : ℕ) → k ≤ m → slice_get marks m ≡ Some (label, n) → ⊥
  none_after k x ordered at test m n le there = true≢false (sym test ∙ ordered k m x (label, n) le at there)

  -- a mark that comes before the label is not of the label
  pub none_before : (k : ℕ) (n : ℕ) (x : Mark) → slice_get marks k ≡ Some (label, n) → x ≡ (label, n) → is_lt (compare x.0 label) ≡ true → ⊥
  none_before k n x at is test = not_itself label (subst (λ (z : Mark). is_lt (compare z.0 label) ≡ true) is test)

-- the mark that was read
pub mark_read : (inside marks : List Mark) (k : ℕ) (x : Mark) → inside ≡ marks → k < length inside → x ≡ slice_index_or inside k x → slice_get marks k ≡ Some x
mark_read inside marks k x is lt read = subst (λ (z : List Mark). slice_get z k ≡ Some x) is (slice_get_read inside (length inside) k x refl lt read)

-- what a test tells
pub told_true : (P Q : Type 0) (b : Bool) → b ≡ true → MatchBool b P Q → P
told_true P Q true e h = h
told_true P Q false e h = cc

pub told_false : (P Q : Type 0) (b : Bool) → b ≡ false → MatchBool b P Q → Q
told_false P Q true e h = cc
told_false P Q false e h = h
