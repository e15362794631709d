-- The walk over the ranges of two classes.
use Rattle.std.proofs.Common.{ℕ, zero, suc, ◌+◌, ◌<◌, ◌≤◌, List, [], ◌∷◌, drop, length, get_or, min, max, inl, inr, arith}
use Rattle.std.proofs.lemmas.List.{drop_more}
use Rattle.xs_class.specs.Classes.{Has, RisesFrom, IsClass}
use Rattle.xs_auto.proofs.ClassLemmas.{above}

abbrev pub range_at : List (ℕ × ℕ) → ℕ → ℕ × ℕ
range_at xs i = get_or xs i (0, 0)

-- a symbol between the ends of a range is in the class
pub has_at : (xs : List (ℕ × ℕ)) (i s : ℕ) → i < length xs → (range_at xs i).0 ≤ s → s ≤ (range_at xs i).1 → Has xs s
has_at [] i s l a b = absurd (omega arith)
has_at (x ∷ xs) zero s l a b = inl (a, b)
has_at (x ∷ xs) (suc i) s l a b = inr (has_at xs i s (omega arith) a b)

-- what is left of a class rises
rises_on : (low i : ℕ) (xs : List (ℕ × ℕ)) → RisesFrom low xs → (l : ℕ) × RisesFrom l (drop i xs)
rises_on low zero xs r = (low, r)
rises_on low (suc i) [] r = (low, tt)
rises_on low (suc i) (x ∷ xs) r = rises_on (x.1 + 2) i xs r.3

-- a symbol of what is left is no less than the next range begins
pub begins_at : (xs : List (ℕ × ℕ)) (i s : ℕ) → IsClass xs → i < length xs → Has (drop i xs) s → (range_at xs i).0 ≤ s
begins_at xs i s class l h =
    let r = rises_on 0 i xs class in
    go (range_at xs i) (drop (i + 1) xs) r.0 (rw (drop_more xs i (0, 0) l) at r.1) (rw (drop_more xs i (0, 0) l) at h)
  where
    go : (x : ℕ × ℕ) (rest : List (ℕ × ℕ)) (low : ℕ) → RisesFrom low (x ∷ rest) → Has (x ∷ rest) s → x.0 ≤ s
    go x rest low r (inl k) = k.0
    go x rest low r (inr k) = let m = above (x.1 + 2) rest r.3 s k in omega (arith, r, m)

-- a common symbol is not in the range that ends first, where the two ranges do not meet
ends_first : (x y : ℕ × ℕ) (xs ys : List (ℕ × ℕ)) (l m : ℕ) → RisesFrom l (x ∷ xs) → RisesFrom m (y ∷ ys) → min x.1 y.1 < max x.0 y.0 → x.1 ≤ y.1 → (s : ℕ) → Has (x ∷ xs) s → Has (y ∷ ys) s → Has xs s
ends_first x y xs ys l m r q apart le s (inr h) k = h
ends_first x y xs ys l m r q apart le s (inl h) (inl k) = absurd (omega (arith, h, k))
ends_first x y xs ys l m r q apart le s (inl h) (inr k) = let g = above (y.1 + 2) ys q.3 s k in absurd (omega (arith, h, g))

pub passed : (xs ys : List (ℕ × ℕ)) (i j : ℕ) → IsClass xs → IsClass ys → i < length xs → j < length ys → min (range_at xs i).1 (range_at ys j).1 < max (range_at xs i).0 (range_at ys j).0 → (range_at xs i).1 ≤ (range_at ys j).1 → (s : ℕ) → Has (drop i xs) s → Has (drop j ys) s → Has (drop (i + 1) xs) s
passed xs ys i j a b l m apart le s h k =
    let r = rises_on 0 i xs a in
    let q = rises_on 0 j ys b in
    ends_first (range_at xs i) (range_at ys j) (drop (i + 1) xs) (drop (j + 1) ys) r.0 q.0 (rw (drop_more xs i (0, 0) l) at r.1) (rw (drop_more ys j (0, 0) m) at q.1) apart le s (rw (drop_more xs i (0, 0) l) at h) (rw (drop_more ys j (0, 0) m) at k)
