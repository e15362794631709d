-- The members of sorted ranges, by place.
use Rattle.std.proofs.Common.{◌≡◌, ◌∙◌, ◌<◌, ◌≤◌, ◌+◌, ◌-◌, inl, inr, sym, subst, ℕ, suc, zero, List, [], ◌∷◌, length, get_or, Bool, leb, IsTrue, ◌↔◌, ◌==◌, arith}
use Rattle.std.specs.List.Sorted.{IsPartitionedBy, IsPartitionPoint}
use Rattle.std.proofs.lemmas.Bool.{cases_lt, leb-true, le-leb, eqb-true}
use Rattle.std.proofs.lemmas.List.{get_or_default}
use Rattle.xs_class.specs.Classes.{Has, IsLeast, RisesFrom, IsClass}

-- a member is in the range at some place
abbrev pub IsAt : List (ℕ × ℕ) → ℕ → ℕ → Type 0
IsAt rs s k = (k < length rs) × ((get_or rs k (0, 0)).0 ≤ s) × (s ≤ (get_or rs k (0, 0)).1)

pub place_of_member : (rs : List (ℕ × ℕ)) (s : ℕ) → Has rs s → (k : ℕ) × IsAt rs s k
place_of_member [] s h = absurd h
place_of_member (r ∷ rs) s (inl h) = (0, (omega arith, h.0, h.1))
place_of_member (r ∷ rs) s (inr h) =
    let rest : (k : ℕ) × IsAt rs s k = place_of_member rs s h in
    let within : suc rest.0 < suc (length rs) = omega (arith, rest.1.0) in
    (suc rest.0, (within, rest.1.1, rest.1.2))

pub member_at_place : (rs : List (ℕ × ℕ)) (s k : ℕ) → IsAt rs s k → Has rs s
member_at_place [] s k h = absurd (omega (arith, h.0))
member_at_place (r ∷ rs) s zero h = inl (h.1, h.2)
member_at_place (r ∷ rs) s (suc k) h =
    let within : k < length rs = omega (arith, h.0) in
    inr (member_at_place rs s k (within, h.1, h.2))

-- the ranges start at low or later
pub starts_from : (low : ℕ) (rs : List (ℕ × ℕ)) (k : ℕ) → RisesFrom low rs → k < length rs → low ≤ (get_or rs k (0, 0)).0
starts_from low [] k up h = absurd (omega arith)
starts_from low (r ∷ rs) zero up h = up.0
starts_from low (r ∷ rs) (suc k) up h =
    let rest : r.1 + 2 ≤ (get_or rs k (0, 0)).0 = starts_from (r.1 + 2) rs k up.3 (omega arith) in
    let order : r.0 ≤ r.1 = up.1 in
    let first : low ≤ r.0 = up.0 in
    omega arith

pub is_in_order : (low : ℕ) (rs : List (ℕ × ℕ)) (k : ℕ) → RisesFrom low rs → k < length rs → (get_or rs k (0, 0)).0 ≤ (get_or rs k (0, 0)).1
is_in_order low [] k up h = absurd (omega arith)
is_in_order low (r ∷ rs) zero up h = up.1
is_in_order low (r ∷ rs) (suc k) up h = is_in_order (r.1 + 2) rs k up.3 (omega arith)

-- a range ends before each later one begins, and a symbol lies between
pub ends_before : (low : ℕ) (rs : List (ℕ × ℕ)) (j k : ℕ) → RisesFrom low rs → j < k → k < length rs → (get_or rs j (0, 0)).1 + 2 ≤ (get_or rs k (0, 0)).0
ends_before low [] j k up l h = absurd (omega arith)
ends_before low (r ∷ rs) j zero up l h = absurd (omega arith)
ends_before low (r ∷ rs) zero (suc k) up l h = starts_from (r.1 + 2) rs k up.3 (omega arith)
ends_before low (r ∷ rs) (suc j) (suc k) up l h = ends_before (r.1 + 2) rs j k up.3 (omega arith) (omega arith)

-- whether a range begins at or below the symbol
abbrev pub begins_by : ℕ → ℕ × ℕ → Bool
begins_by s r = leb r.0 s

pub later_begins_later : (rs : List (ℕ × ℕ)) (i j s : ℕ) → IsClass rs → i ≤ j → j < length rs → (get_or rs j (0, 0)).0 ≤ s → (get_or rs i (0, 0)).0 ≤ s
later_begins_later rs i j s up l h t =
    elim (cases_lt i j) [
      | inl before ↦ omega (arith, ends_before 0 rs i j up before h, is_in_order 0 rs i up (omega arith))
      | inr upto ↦ let same : i ≡ j = omega arith in rw same t
    ]

pub begins_in_order : (rs : List (ℕ × ℕ)) (s : ℕ) → IsClass rs → IsPartitionedBy (begins_by s) rs
begins_in_order rs s up i j d l h t =
    let here : get_or rs i d ≡ get_or rs i (0, 0) = get_or_default rs i d (0, 0) (omega arith) in
    let there : get_or rs j d ≡ get_or rs j (0, 0) = get_or_default rs j d (0, 0) h in
    rw here (le-leb _ _ (later_begins_later rs i j s up l h (leb-true _ _ (rw there at t))))

begun_is_below : (rs : List (ℕ × ℕ)) (s i k : ℕ) → IsPartitionPoint (λ r. r.0 ≤ s) (λ r. s < r.0) rs i → IsAt rs s k → k < i
begun_is_below rs s i k parts at =
    elim (cases_lt k i) [
      | inl before ↦ before
      | inr after ↦ absurd (omega (arith, parts.1 k (0, 0) after at.0, at.1))
    ]

the_last_begun : (rs : List (ℕ × ℕ)) (s i k : ℕ) → IsClass rs → IsPartitionPoint (λ r. r.0 ≤ s) (λ r. s < r.0) rs i → i ≤ length rs → IsAt rs s k → k < i → s ≤ (get_or rs (i - 1) (0, 0)).1
the_last_begun rs s i k up parts within at below =
    let begun : (get_or rs (i - 1) (0, 0)).0 ≤ s = parts.0 (i - 1) (0, 0) (omega arith) (omega arith) in
    elim (cases_lt k (i - 1)) [
      | inl before ↦ absurd (omega (arith, ends_before 0 rs k (i - 1) up before (omega arith), at.2))
      | inr upto ↦ let same : i - 1 ≡ k = omega arith in rw same at.2
    ]

-- where the ranges from i on begin after the symbol, a member is in the one before i
pub found_by_search : (rs : List (ℕ × ℕ)) (s i : ℕ) → IsClass rs → IsPartitionPoint (λ r. r.0 ≤ s) (λ r. s < r.0) rs i → i ≤ length rs → Has rs s → (0 < i) × (s ≤ (get_or rs (i - 1) (0, 0)).1)
found_by_search rs s i up parts within h =
    let at : (k : ℕ) × IsAt rs s k = place_of_member rs s h in
    let below : at.0 < i = begun_is_below rs s i at.0 parts at.1 in
    (omega arith, the_last_begun rs s i at.0 up parts within at.1 below)

pub search_finds : (rs : List (ℕ × ℕ)) (s i : ℕ) → IsPartitionPoint (λ r. r.0 ≤ s) (λ r. s < r.0) rs i → i ≤ length rs → 0 < i → s ≤ (get_or rs (i - 1) (0, 0)).1 → Has rs s
search_finds rs s i parts within some ends =
    let begun : (get_or rs (i - 1) (0, 0)).0 ≤ s = parts.0 (i - 1) (0, 0) (omega arith) (omega arith) in
    member_at_place rs s (i - 1) (omega arith, begun, ends)

-- the answer of the search, where some range has begun and where none has
pub has_where_begun : (rs : List (ℕ × ℕ)) (s i : ℕ) (r : ℕ × ℕ) → IsClass rs → i ≤ length rs → IsPartitionPoint (λ r. r.0 ≤ s) (λ r. s < r.0) rs i → 0 < i → r ≡ get_or rs (i - 1) r → IsTrue (leb s r.1) ↔ Has rs s
has_where_begun rs s i r up within parts some at =
    let here : r ≡ get_or rs (i - 1) (0, 0) = at ∙ get_or_default rs (i - 1) r (0, 0) (omega arith) in (
      λ t. search_finds rs s i parts within some (subst (λ (q : ℕ × ℕ). s ≤ q.1) here (leb-true _ _ t)),
      λ h. le-leb _ _ (subst (λ (q : ℕ × ℕ). s ≤ q.1) (sym here) (found_by_search rs s i up parts within h).1),
    )

pub has_where_none_begun : (rs : List (ℕ × ℕ)) (s i : ℕ) → IsClass rs → i ≤ length rs → IsPartitionPoint (λ r. r.0 ≤ s) (λ r. s < r.0) rs i → i ≤ 0 → Has rs s → ⊥
has_where_none_begun rs s i up within parts none h = omega (arith, (found_by_search rs s i up parts within h).0)

pub first_is_least : (rs : List (ℕ × ℕ)) (r : ℕ × ℕ) → IsClass rs → 0 < length rs → r ≡ get_or rs 0 r → IsLeast rs r.0
first_is_least [] r up some at = absurd (omega arith)
first_is_least (x ∷ xs) r up some at =
    let order : x.0 ≤ x.1 = up.1 in
    let P : ℕ × ℕ → Type 0 = λ q. IsLeast (x ∷ xs) q.0 in
    subst P (sym at) (
      inl (omega arith, order),
      λ t h. let k = place_of_member (x ∷ xs) t h in
          let begins : x.0 ≤ (get_or (x ∷ xs) k.0 (0, 0)).0 = first_begins k.0 order up.3 k.1.0 in
          omega (arith, k.1.1),
    )
  where
    first_begins : (k : ℕ) → x.0 ≤ x.1 → RisesFrom (x.1 + 2) xs → k < suc (length xs) → x.0 ≤ (get_or (x ∷ xs) k (0, 0)).0
    first_begins zero order up h = omega arith
    first_begins (suc k) order up h = omega (arith, starts_from (x.1 + 2) xs k up (omega arith))

pub empty_is_memberless : (rs : List (ℕ × ℕ)) (b : Bool) → IsClass rs → b ≡ (length rs == 0) → IsTrue b ↔ ((s : ℕ) → Has rs s → ⊥)
empty_is_memberless [] b up is = (λ t s h. h, λ h. is)
empty_is_memberless (r ∷ rs) b up is =
    let order : r.0 ≤ r.1 = up.1 in
    (λ t. absurd (omega (arith, eqb-true _ _ (sym is ∙ t))), λ h. absurd (h r.0 (inl (omega arith, order))))
