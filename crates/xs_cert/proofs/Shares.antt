-- The groups that share a word, as a list of pairs in order.
use Rattle.std.proofs.Common.{◌≡◌, ℕ, zero, suc, ◌+◌, ◌-◌, ◌<◌, ◌≤◌, ◌⊎◌, ◌↔◌, ◌&&◌, ◌||◌, min, max, not, nat_eq, Bool, true, false, cond, List, [], ◌∷◌, ◌++◌, length, map, flat_map, filter, refl, sym, ap, ◌∙◌, subst, inl, inr, arith}
use Rattle.std.specs.List.{Contains, range_with_len}
use Rattle.std.proofs.lemmas.Bool.{eqb-true, cases_lt, true≢false}
use Rattle.std.proofs.lemmas.List.Elements.{filter_agree}
use Rattle.xs_class.proofs.Truth.{eq_self, and_true, both_true, or_left, or_right, or_false}
use Rattle.xs_auto.specs.Nests.{Group, group_at, AreShared}
use Rattle.xs_check_laws.specs.Acceptance.{IsBefore}
use Rattle.xs_cert_laws.specs.Certificates.{has_pair, is_shared, one_fence, IsFencePair, AreShares, between, group_heads}
use Rattle.xs_cert_laws.specs.Blocks.{Head, for_groups}
use Rattle.xs_cert_laws.proofs.Finding.{between_has, map_has, filter_has, flat_has}
use Rattle.xs_cert.specs.Heads.{is_open}
use Rattle.xs_cert.specs.Sides.{open_heads}
use Rattle.xs_cert.specs.Writing.{shares_of, shares_in}

-- the pair of c and d does not come before that of a and b
abbrev AtLeast : ℕ → ℕ → ℕ → ℕ → Type 0
AtLeast a b c d = (a < c) ⊎ ((a ≡ c) × (b ≤ d))

-- pairs of groups of one fence in ascending order, from a bound on
abbrev GoFrom : List Group → ℕ → ℕ → List (ℕ × ℕ) → Type 0
GoFrom nest a b [] = Unit {0}
GoFrom nest a b (s ∷ ss) = AtLeast a b s.0 s.1 × IsFencePair nest s.0 s.1 × GoFrom nest s.0 (suc s.1) ss

past : (a b c d : ℕ) → AtLeast a (suc b) c d → IsBefore a b c d
past a b c d (inl lt) = inl lt
past a b c d (inr e) = inr (e.0, omega (arith, e.1))

go_shares : (nest : List Group) (a b : ℕ) (ss : List (ℕ × ℕ)) → GoFrom nest a b ss → AreShares nest ss
go_shares nest a b [] x = tt
go_shares nest a b (s ∷ []) x = x.1
go_shares nest a b (s ∷ t ∷ ss) x = (x.1, past s.0 s.1 t.0 t.1 x.2.0, go_shares nest s.0 (suc s.1) (t ∷ ss) x.2)

lower : (a b c d e f : ℕ) → AtLeast a b c d → AtLeast c d e f → AtLeast a b e f
lower a b c d e f (inl p) (inl q) = inl (omega (arith, p, q))
lower a b c d e f (inl p) (inr q) = inl (omega (arith, p, q.0))
lower a b c d e f (inr p) (inl q) = inl (omega (arith, p.0, q))
lower a b c d e f (inr p) (inr q) = inr (p.0 ∙ q.0, omega (arith, p.1, q.1))

go_lower : (nest : List Group) (a b c d : ℕ) (ss : List (ℕ × ℕ)) → AtLeast a b c d → GoFrom nest c d ss → GoFrom nest a b ss
go_lower nest a b c d [] le x = tt
go_lower nest a b c d (s ∷ ss) le x = (lower a b c d s.0 s.1 le x.0, x.1, x.2)

-- the pairs of one group, and then those of later ones
go_row : (nest : List Group) (r : ℕ → Bool) (h len low b : ℕ) (rest : List (ℕ × ℕ)) → b ≤ low → ((k : ℕ) → r k ≡ true → low ≤ k → k < low + len → IsFencePair nest h k) → GoFrom nest (suc h) 0 rest → GoFrom nest h b (map (λ k. (h, k)) (filter r (range_with_len low len)) ++ rest)
go_row nest r h zero low b rest le fenced later = go_lower nest h b (suc h) 0 rest (inl (omega arith)) later
go_row nest r h (suc len) low b rest le fenced later = by (r low) refl (go_row nest r h len (low + 1) (suc low) rest (omega arith) (λ k yes first last. fenced k yes (omega (arith, first)) (omega (arith, last))) later) (go_row nest r h len (low + 1) b rest (omega (arith, le)) (λ k yes first last. fenced k yes (omega (arith, first)) (omega (arith, last))) later)
  where
    by : (t : Bool) → r low ≡ t → GoFrom nest h (suc low) (map (λ k. (h, k)) (filter r (range_with_len (low + 1) len)) ++ rest) → GoFrom nest h b (map (λ k. (h, k)) (filter r (range_with_len (low + 1) len)) ++ rest) → GoFrom nest h b (map (λ k. (h, k)) (cond t (low ∷ filter r (range_with_len (low + 1) len)) (filter r (range_with_len (low + 1) len))) ++ rest)
    by true e on on' = (inr (refl, le), fenced low e (omega arith) (omega arith), on)
    by false e on on' = on'

module _ (nest : List Group) (r : ℕ → ℕ → Bool) (fenced : (h k : ℕ) → r h k ≡ true → h ≤ k → k < length nest → IsFencePair nest h k) where
  go_rows : (len low : ℕ) → low + len ≡ length nest → GoFrom nest low 0 (flat_map (shares_of (length nest) r) (range_with_len low len))
  go_rows zero low e = tt
  go_rows (suc len) low e = go_row nest (r low) low (length nest - low) low 0 (flat_map (shares_of (length nest) r) (range_with_len (low + 1) len)) (omega arith) (λ k yes first last. fenced low k yes first (omega (arith, last, e))) (subst (λ n. GoFrom nest n 0 (flat_map (shares_of (length nest) r) (range_with_len (low + 1) len))) (omega arith) (go_rows len (low + 1) (omega (arith, e))))

  pub are_shares : AreShares nest (shares_in (length nest) r)
  are_shares = go_shares nest 0 0 (shares_in (length nest) r) (go_rows (length nest - 0) 0 (omega arith))

-- the test says so of each pair of the list
abbrev Holding : (ℕ → ℕ → Bool) → List (ℕ × ℕ) → Type 0
Holding r [] = Unit {0}
Holding r (s ∷ ss) = (r s.0 s.1 ≡ true) × Holding r ss

holding_both : (r : ℕ → ℕ → Bool) (xs ys : List (ℕ × ℕ)) → Holding r xs → Holding r ys → Holding r (xs ++ ys)
holding_both r [] ys x y = y
holding_both r (s ∷ ss) ys x y = (x.0, holding_both r ss ys x.1 y)

holding_row : (r : ℕ → ℕ → Bool) (h len low : ℕ) → Holding r (map (λ k. (h, k)) (filter (r h) (range_with_len low len)))
holding_row r h zero low = tt
holding_row r h (suc len) low = by (r h low) refl (holding_row r h len (low + 1))
  where
    by : (t : Bool) → r h low ≡ t → Holding r (map (λ k. (h, k)) (filter (r h) (range_with_len (low + 1) len))) → Holding r (map (λ k. (h, k)) (cond t (low ∷ filter (r h) (range_with_len (low + 1) len)) (filter (r h) (range_with_len (low + 1) len))))
    by true e x = (e, x)
    by false e x = x

holding_rows : (count : ℕ) (r : ℕ → ℕ → Bool) (len low : ℕ) → Holding r (flat_map (shares_of count r) (range_with_len low len))
holding_rows count r zero low = tt
holding_rows count r (suc len) low = holding_both r (shares_of count r low) (flat_map (shares_of count r) (range_with_len (low + 1) len)) (holding_row r low (count - low) low) (holding_rows count r len (low + 1))

listed_holds : (r : ℕ → ℕ → Bool) (ss : List (ℕ × ℕ)) (h k : ℕ) → Holding r ss → has_pair ss h k ≡ true → r h k ≡ true
listed_holds r [] h k x says = absurd (true≢false (sym says))
listed_holds r (s ∷ ss) h k x says = by (nat_eq s.0 h && nat_eq s.1 k) refl says (listed_holds r ss h k x.1)
  where
    by : (t : Bool) → (nat_eq s.0 h && nat_eq s.1 k) ≡ t → (t || has_pair ss h k) ≡ true → (has_pair ss h k ≡ true → r h k ≡ true) → r h k ≡ true
    by true e found later = let both = and_true _ _ e in rw (← eqb-true s.0 h both.0, ← eqb-true s.1 k both.1) x.0
    by false e found later = later found

listed : (ss : List (ℕ × ℕ)) (h k : ℕ) → Contains ss (h, k) → has_pair ss h k ≡ true
listed [] h k at = absurd (omega (arith, at.1))
listed (s ∷ ss) h k (zero, lt, e) =
    let same : s ≡ (h, k) = e in
    let first : s.0 ≡ h = ap (λ x. x.0) same in
    let second : s.1 ≡ k = ap (λ x. x.1) same in
    or_left (nat_eq s.0 h && nat_eq s.1 k) (has_pair ss h k) (both_true (nat_eq s.0 h) (nat_eq s.1 k) (rw first (eq_self h)) (rw second (eq_self k)))
listed (s ∷ ss) h k (suc i, lt, e) = or_right (nat_eq s.0 h && nat_eq s.1 k) (has_pair ss h k) (listed ss h k (i, omega arith, e))

module _ (count : ℕ) (r : ℕ → ℕ → Bool) (turned : (h k : ℕ) → r h k ≡ true → r k h ≡ true) (inside : (h k : ℕ) → r h k ≡ true → (h < count) × (k < count)) where
  in_order : (h k : ℕ) → r h k ≡ true → h ≤ k → has_pair (shares_in count r) h k ≡ true
  in_order h k says le =
      let within = inside h k says in
      let row = map_has (λ j. (h, j)) (filter (r h) (between h count)) k (filter_has (r h) (between h count) k (between_has h count k le within.1) says) in
      listed (shares_in count r) h k (flat_has (shares_of count r) (between 0 count) h (h, k) (between_has 0 count h (omega arith) within.0) row)

  pub share_from : (h k : ℕ) → r h k ≡ true → is_shared (shares_in count r) h k ≡ true
  share_from h k says = elim (cases_lt k h) [
    | inr le ↦ let least : min h k ≡ h = omega (arith, le) in let most : max h k ≡ k = omega (arith, le) in rw (least, most) (in_order h k says le)
    | inl lt ↦ let least : min h k ≡ k = omega (arith, lt) in let most : max h k ≡ h = omega (arith, lt) in rw (least, most) (in_order k h (turned h k says) (omega (arith, lt)))
  ]

  pub share_to : (h k : ℕ) → is_shared (shares_in count r) h k ≡ true → r h k ≡ true
  share_to h k says = elim (cases_lt k h) [
    | inr le ↦ let least : min h k ≡ h = omega (arith, le) in let most : max h k ≡ k = omega (arith, le) in listed_holds r (shares_in count r) h k (holding_rows count r (count - 0) 0) (rw (least, most) at says)
    | inl lt ↦ let least : min h k ≡ k = omega (arith, lt) in let most : max h k ≡ h = omega (arith, lt) in turned k h (listed_holds r (shares_in count r) k h (holding_rows count r (count - 0) 0) (rw (least, most) at says))
  ]

  same_truth : (a b : Bool) → (a ≡ true → b ≡ true) → (b ≡ true → a ≡ true) → a ≡ b
  same_truth true b to from = sym (to refl)
  same_truth false true to from = from refl
  same_truth false false to from = refl

  pub same_heads : (nest : List Group) (h : ℕ) → open_heads nest r h ≡ group_heads nest (shares_in count r) h
  same_heads nest h = ap (map (for_groups h)) (filter_agree (is_open nest r h) (λ k. one_fence nest h k && not (is_shared (shares_in count r) h k)) (λ k. ap (λ t. one_fence nest h k && not t) (same_truth (r h k) (is_shared (shares_in count r) h k) (share_from h k) (share_to h k))) (between h (length nest)))
