-- The greatest number of leading rows that are right.
use Rattle.std.proofs.Common.{◌≡◌, ℕ, zero, suc, ◌+◌, ◌<◌, ◌≤◌, ◌⊎◌, Bool, true, false, List, [], ◌∷◌, ◌++◌, length, get_or, take, drop, Option, Some, None, refl, sym, ap, subst, ◌∙◌, inl, inr, arith, length-append}
use Rattle.std.specs.Prelude.{IfSome}
use Rattle.std.proofs.lemmas.Bool.{cases_eq, cases_lt, true≢false}
use Rattle.std.proofs.lemmas.List.{take_more, take_at, take-append-drop, take-take, get_or-take, get_or_past, length-take}
use Rattle.xs_auto.specs.Nets.{Graph}
use Rattle.xs_meet.specs.Closed.{Drifts, Strides, Leads}
use Rattle.xs_closed.specs.Rows.{Grid, Row, marked, IsSized, IsNext, holds, places, row_then, rows_from, rows_of}
use Rattle.xs_closed.specs.Longest.{First, IsGreatestIn}
use Rattle.xs_closed.specs.Search.{IsPair}
use Rattle.xs_closed.specs.Testing.{InRow, Keeps, Raises, Lacks, IsNeed, RowHasNoFinals, IsRowNeed, IsBelow, IsLimit, rank, IsBest, IsRead}
use Rattle.xs_closed.proofs.RowLemmas.{holds_rows}
use Rattle.xs_closed.proofs.NeedLemmas.{raises_none, raises_then, lacks_as}

-- a marked pair is inside the table
pub marked_within : (high wide : ℕ) (z : Grid) (a b : ℕ) → IsSized high wide z → marked z a b ≡ true → (a < high) × (b < wide)
marked_within high wide z a b sized e = elim (cases_lt a high) [
  | inr l ↦ absurd (true≢false (sym e ∙ ap (λ r. get_or r b false) (get_or_past z.rows a [] (omega (arith, sized.high)))))
  | inl l ↦ elim (cases_lt b wide) [
    | inr m ↦ absurd (true≢false (sym e ∙ get_or_past (get_or z.rows a []) b false (omega (arith, sized.even a l))))
    | inl m ↦ (l, m)
  ]
]

pub next_within : (high wide : ℕ) (z : Grid) (a from : ℕ) (result : Option ℕ) → IsSized high wide z → IfSome result (IsNext z a from) → IfSome result (λ b. b < wide)
next_within high wide z a from None sized next = next
next_within high wide z a from (Some b) sized next = (marked_within high wide z a b sized next.there).1

-- a row, then its empty moves, then its edges and calls
pub row_fails : (z : Grid) (R : ℕ → ℕ → Type 0) (m n : Graph) (a old : ℕ) {T : ℕ → ℕ → Type 0} → ((c d : ℕ) → T c d → InRow z a (Keeps R m n a) c d) → Lacks z T → IsRowNeed R m n z a old None
row_fails z R m n a old to lacks = λ none. lacks_as z to lacks

pub kept_in : (z : Grid) (R : ℕ → ℕ → Type 0) (m n : Graph) (a c d : ℕ) → InRow z a (IsPair a) c d → InRow z a (Keeps R m n a) c d
kept_in z R m n a c d t = record { partner = t.partner; there = t.there; leads = inl t.leads }

pub drifts_in : (z : Grid) (R : ℕ → ℕ → Type 0) (m n : Graph) (a c d : ℕ) → InRow z a (Drifts m n a) c d → InRow z a (Keeps R m n a) c d
drifts_in z R m n a c d t = record { partner = t.partner; there = t.there; leads = inr (inl t.leads) }

pub strides_in : (z : Grid) (R : ℕ → ℕ → Type 0) (m n : Graph) (a c d : ℕ) → InRow z a (Strides R m n a) c d → InRow z a (Keeps R m n a) c d
strides_in z R m n a c d t = record { partner = t.partner; there = t.there; leads = inr (inr t.leads) }

kinds : (z : Grid) (R : ℕ → ℕ → Type 0) (m n : Graph) (a c d b : ℕ) → marked z a b ≡ true → Keeps R m n a b c d → (InRow z a (IsPair a) c d ⊎ InRow z a (Drifts m n a) c d) ⊎ InRow z a (Strides R m n a) c d
kinds z R m n a c d b e (inl x) = inl (inl (record { partner = b; there = e; leads = x }))
kinds z R m n a c d b e (inr (inl x)) = inl (inr (record { partner = b; there = e; leads = x }))
kinds z R m n a c d b e (inr (inr x)) = inr (record { partner = b; there = e; leads = x })

fronts : (z : Grid) (R : ℕ → ℕ → Type 0) (m n : Graph) (a c d : ℕ) → InRow z a (IsPair a) c d ⊎ InRow z a (Drifts m n a) c d → InRow z a (Keeps R m n a) c d
fronts z R m n a c d (inl t) = kept_in z R m n a c d t
fronts z R m n a c d (inr t) = drifts_in z R m n a c d t

pub row_done : (z : Grid) (R : ℕ → ℕ → Type 0) (m n : Graph) (a old kept drifted : ℕ) (result : Option ℕ) → RowHasNoFinals m n z a → Raises z (InRow z a (IsPair a)) old kept → Raises z (InRow z a (Drifts m n a)) kept drifted → IsNeed z (InRow z a (Strides R m n a)) drifted result → IsRowNeed R m n z a old result
row_done z R m n a old kept drifted None none h g k = row_fails z R m n a old (strides_in z R m n a) k
row_done z R m n a old kept drifted (Some new) none h g k =
    let front : Raises z (λ c d. InRow z a (IsPair a) c d ⊎ InRow z a (Drifts m n a) c d) old drifted = raises_then z old kept drifted (λ c d t. t) (λ c d t. inl t) (λ c d t. inr t) h g in
    (none, raises_then z old drifted new (λ c d t. kinds z R m n a c d t.partner t.there t.leads) (fronts z R m n a) (strides_in z R m n a) front k)

pub row_empty : (z : Grid) (R : ℕ → ℕ → Type 0) (m n : Graph) (a old : ℕ) → ((b : ℕ) → marked z a b ≡ false) → IsRowNeed R m n z a old (Some old)
row_empty z R m n a old none = (λ b e f g. true≢false (sym e ∙ none b), raises_none z old (λ c d t. true≢false (sym t.there ∙ none t.partner)))

pub read_more : (z : Grid) (R : ℕ → ℕ → Type 0) (m n : Graph) (low a need new : ℕ) → IsRead R m n z low a need → IsRowNeed R m n z a need (Some new) → IsRead R m n z low (a + 1) new
read_more z R m n low a need new h row = record {
  there = λ x b c d l e t. elim (cases_eq x a) [
    | inl q ↦ row.1.there c d (of_row x b c d q e t)
    | inr q ↦ h.there x b c d (omega arith) e t
  ];
  none = λ x b l e f g. elim (cases_eq x a) [
    | inl q ↦ row.0 b (rw q at e) (rw q at f) g
    | inr q ↦ h.none x b (omega arith) e f g
  ];
  order = omega (arith, h.order, row.1.order);
  within = λ x b c d l e t. elim (cases_eq x a) [
    | inl q ↦ row.1.within c d (of_row x b c d q e t)
    | inr q ↦ omega (arith, h.within x b c d (omega arith) e t, row.1.order)
  ];
  least = λ y l o k. row.1.least y (h.least y (omega arith) o (λ x b c d p e t. k x b c d (omega arith) e t)) (λ c d t. elim t.leads [
    | inl same ↦ omega (arith, same.first)
    | inr leads ↦ k a t.partner c d (omega arith) t.there leads
  ]);
}
  where
    of_row : (x b c d : ℕ) → x ≡ a → marked z x b ≡ true → Leads R m n x b c d → InRow z a (Keeps R m n a) c d
    of_row x b c d q e t = record { partner = b; there = rw q at e; leads = inr (rw q at t) }

-- a number of rows is right where it is no less than what those rows need
limit_need : (z : Grid) (R : ℕ → ℕ → Type 0) (m n : Graph) (low x need : ℕ) → IsRead R m n z low x need → IsLimit R m n z low x → need ≤ x
limit_need z R m n low x need h limit = h.least x (omega arith) limit.order (λ a b c d l e t. (limit.closed a b c d (record { there = e; before = l }) t).before)

need_limit : (z : Grid) (R : ℕ → ℕ → Type 0) (m n : Graph) (low x need : ℕ) → IsRead R m n z low x need → need ≤ x → IsLimit R m n z low x
need_limit z R m n low x need h l = record {
  order = omega (arith, h.order);
  closed = λ a b c d p t. record { there = h.there a b c d p.before p.there t; before = omega (arith, h.within a b c d p.before p.there t) };
  none = λ a b p f g. h.none a b p.before p.there f g;
}

-- no greater number is right where a row is not
pub fails_on : (z : Grid) (R : ℕ → ℕ → Type 0) (m n : Graph) (low a old y : ℕ) → IsRowNeed R m n z a old None → a < y → IsLimit R m n z low y → ⊥
fails_on z R m n low a old y need l limit =
    need (λ b e f g. limit.none a b (record { there = e; before = l }) f g) (λ c d t. elim t.leads [
      | inl same ↦ rw (same.first, same.second) t.there
      | inr leads ↦ (limit.closed a t.partner c d (record { there = t.there; before = l }) leads).there
    ])

pub best_on : (z : Grid) (R : ℕ → ℕ → Type 0) (m n : Graph) (low x y : ℕ) (best : Option ℕ) → x ≤ y → ((k : ℕ) → x ≤ k → k < y → IsLimit R m n z low k → ⊥) → IsBest R m n z low x best → IsBest R m n z low y best
best_on z R m n low x y None l none h = λ k o limit. elim (cases_lt k x) [ inl p ↦ h k p limit | inr p ↦ none k p o limit ]
best_on z R m n low x y (Some j) l none h = record {
  limit = h.limit;
  before = omega (arith, h.before);
  count = h.count;
  is = h.is;
  greatest = λ k o limit. elim (cases_lt k x) [ inl p ↦ h.greatest k p limit | inr p ↦ absurd (none k p o limit) ];
}

pub best_more : (z : Grid) (R : ℕ → ℕ → Type 0) (m n : Graph) (low a need count : ℕ) (best result : Option ℕ) → IsRead R m n z low a need → count ≡ rank z a → (need ≤ a → result ≡ Some count) → (a < need → result ≡ best) → IsBest R m n z low a best → IsBest R m n z low (a + 1) result
best_more z R m n low a need count best result h e taken kept old = elim (cases_lt a need) [
  | inl l ↦ rw (kept l) (best_on z R m n low a (a + 1) best (omega arith) (λ k o p limit. let q : k ≡ a = omega arith in absurd (omega (arith, limit_need z R m n low a need h (rw q at limit)))) old)
  | inr l ↦ rw (taken l) (record { limit = a; before = omega arith; count = e; is = need_limit z R m n low a need h l; greatest = λ y o k. omega arith })
]

-- counting rows
rows_append : (k : ℕ) (xs ys : List (List Bool)) → rows_from k (xs ++ ys) ≡ rows_from k xs ++ rows_from (k + length xs) ys
rows_append k [] ys = let e : k ≡ k + 0 = omega arith in ap (λ i. rows_from i ys) e
rows_append k (x ∷ xs) ys =
    let e : suc k + length xs ≡ k + suc (length xs) = omega arith in
    ap (row_then k (places 0 x)) (rows_append (suc k) xs ys ∙ ap (λ i. rows_from (suc k) xs ++ rows_from i ys) e) ∙ then_append k (places 0 x) (rows_from (suc k) xs) (rows_from (k + suc (length xs)) ys)
  where
    then_append : (a : ℕ) (ps : List ℕ) (rs ss : List Row) → row_then a ps (rs ++ ss) ≡ row_then a ps rs ++ ss
    then_append a [] rs ss = refl
    then_append a (p ∷ ps) rs ss = refl

-- the rows of the first x lists of marks come first
pub rows_split : (x : ℕ) (rs : List (List Bool)) → rows_from 0 rs ≡ rows_from 0 (take x rs) ++ rows_from (0 + length (take x rs)) (drop x rs)
rows_split x rs = ap (rows_from 0) (sym (take-append-drop x rs)) ∙ rows_append 0 (take x rs) (drop x rs)

rows_few : (k : ℕ) (rs : List (List Bool)) → length (rows_from k rs) ≤ length rs
rows_few k [] = omega arith
rows_few k (r ∷ rs) = few k (places 0 r) (rows_from (suc k) rs) (length rs) (rows_few (suc k) rs)
  where
    few : (a : ℕ) (ps : List ℕ) (ss : List Row) (n : ℕ) → length ss ≤ n → length (row_then a ps ss) ≤ suc n
    few a [] ss n l = omega arith
    few a (p ∷ ps) ss n l = omega arith

pub rank_few : (z : Grid) (x : ℕ) → rank z x ≤ x
rank_few z x = omega (arith, rows_few 0 (take x z.rows), length-take x z.rows)

pub rank_le : (z : Grid) (x : ℕ) → rank z x ≤ length (rows_of z)
rank_le z x = omega (arith, ap length (rows_split x z.rows), length-append (rows_from 0 (take x z.rows)) (rows_from (0 + length (take x z.rows)) (drop x z.rows)))

pub rank_mono : (z : Grid) (x y : ℕ) → x ≤ y → rank z x ≤ rank z y
rank_mono z x y l = rw (ap (λ rs. length (rows_from 0 rs)) (sym (take-take x y z.rows l))) (rank_le (record { wide = z.wide; rows = take y z.rows }) x)

-- a row with a mark counts, and one without does not
pub places_none : (k : ℕ) (bs : List Bool) → ((i : ℕ) → get_or bs i false ≡ false) → places k bs ≡ []
places_none k [] h = refl
places_none k (true ∷ bs) h = absurd (true≢false (h 0))
places_none k (false ∷ bs) h = places_none (suc k) bs (λ i. h (suc i))

places_some : (k : ℕ) (bs : List Bool) (i : ℕ) → get_or bs i false ≡ true → (a : ℕ) (rs : List Row) → length (row_then a (places k bs) rs) ≡ suc (length rs)
places_some k [] i e a rs = absurd (true≢false (sym e))
places_some k (true ∷ bs) i e a rs = refl
places_some k (false ∷ bs) zero e a rs = absurd (true≢false (sym e))
places_some k (false ∷ bs) (suc i) e a rs = places_some (suc k) bs i e a rs

rank_next : (z : Grid) (a : ℕ) → a < length z.rows → rank z (a + 1) ≡ rank z a + length (row_then (0 + length (take a z.rows)) (places 0 (get_or z.rows a [])) [])
rank_next z a l = ap (λ rs. length (rows_from 0 rs)) (take_more z.rows a [] l) ∙ ap length (rows_append 0 (take a z.rows) (get_or z.rows a [] ∷ [])) ∙ length-append (rows_from 0 (take a z.rows)) _

pub rank_some : (z : Grid) (a b : ℕ) → a < length z.rows → marked z a b ≡ true → rank z (a + 1) ≡ rank z a + 1
rank_some z a b l e = rank_next z a l ∙ ap (λ n. rank z a + n) (places_some 0 (get_or z.rows a []) b e (0 + length (take a z.rows)) [])

pub rank_same : (z : Grid) (a : ℕ) → a < length z.rows → ((b : ℕ) → marked z a b ≡ false) → rank z (a + 1) ≡ rank z a
rank_same z a l h = rank_next z a l ∙ ap (λ ps. rank z a + length (row_then (0 + length (take a z.rows)) ps [])) (places_none 0 (get_or z.rows a []) h) ∙ omega arith

-- each number of leading rows is that of the rows below some state
reach_row : (k : ℕ) (ps : List ℕ) (rs : List (List Bool)) (j : ℕ) → ((i : ℕ) → i ≤ length (rows_from (suc k) rs) → (x : ℕ) × (x ≤ length rs) × (length (rows_from (suc k) (take x rs)) ≡ i)) → suc j ≤ length (row_then k ps (rows_from (suc k) rs)) → (x : ℕ) × (x ≤ length rs) × (length (row_then k ps (rows_from (suc k) (take x rs))) ≡ suc j)
reach_row k [] rs j on l = on (suc j) l
reach_row k (p ∷ ps) rs j on l = let h = on j (omega arith) in (h.0, h.1, ap suc h.2)

reach : (k : ℕ) (rs : List (List Bool)) (j : ℕ) → j ≤ length (rows_from k rs) → (x : ℕ) × (x ≤ length rs) × (length (rows_from k (take x rs)) ≡ j)
reach k rs zero l = (0, omega arith, refl)
reach k [] (suc j) l = absurd (omega arith)
reach k (r ∷ rs) (suc j) l = let h = reach_row k (places 0 r) rs j (λ i m. reach (suc k) rs i m) l in (suc h.0, omega (arith, h.1), h.2)

pub rank_reach : (z : Grid) (j : ℕ) → j ≤ length (rows_of z) → (x : ℕ) × (x ≤ length z.rows) × (rank z x ≡ j)
rank_reach z j l = reach 0 z.rows j l

-- the first rows have the marked pairs below a state
first_rows : (z : Grid) (x a b : ℕ) → holds (take (rank z x) (rows_of z)) a b ≡ get_or (get_or (take x z.rows) a []) b false
first_rows z x a b = ap (λ rs. holds rs a b) (ap (take (rank z x)) (rows_split x z.rows) ∙ take_at (rows_from 0 (take x z.rows)) (rows_from (0 + length (take x z.rows)) (drop x z.rows)) (rank z x) refl) ∙ holds_rows 0 (take x z.rows) a b a (omega arith)

pub below_first : (z : Grid) (x a b : ℕ) → IsBelow z x a b → First z (rank z x) a b
below_first z x a b h = first_rows z x a b ∙ ap (λ r. get_or r b false) (get_or-take x z.rows a [] h.before) ∙ h.there

pub first_below : (z : Grid) (x a b : ℕ) → First z (rank z x) a b → IsBelow z x a b
first_below z x a b e = elim (cases_lt a x) [
  | inl l ↦ record { there = ap (λ r. get_or r b false) (sym (get_or-take x z.rows a [] l)) ∙ sym (first_rows z x a b) ∙ e; before = l }
  | inr l ↦ absurd (true≢false (sym e ∙ first_rows z x a b ∙ ap (λ r. get_or r b false) (get_or_past (take x z.rows) a [] (omega (arith, length-take x z.rows)))))
]

-- the best number of rows is the greatest that is right
pub best_greatest : (z : Grid) (R : ℕ → ℕ → Type 0) (m n : Graph) (low high wide : ℕ) (P : ℕ → Type 0) (result : Option ℕ) → IsSized high wide z → ((x : ℕ) → P (rank z x) → IsLimit R m n z low x) → ((x : ℕ) → IsLimit R m n z low x → P (rank z x)) → IsBest R m n z low (high + 1) result → IsGreatestIn (length (rows_of z)) P result
best_greatest z R m n low high wide P None sized to from best = λ i l p. let x = rank_reach z i l in best x.0 (omega (arith, x.1, sized.high)) (to x.0 (subst P (sym x.2) p))
best_greatest z R m n low high wide P (Some j) sized to from best = record {
  within = omega (arith, best.count, rank_le z best.limit);
  is = subst P (sym best.count) (from best.limit best.is);
  greatest = λ i l p.
      let x = rank_reach z i l in
      let below = best.greatest x.0 (omega (arith, x.1, sized.high)) (to x.0 (subst P (sym x.2) p)) in
      omega (arith, x.2, best.count, rank_mono z x.0 best.limit below);
}
