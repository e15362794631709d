-- What stands in lists that were put together, and in shifted ones.
use Rattle.std.proofs.Common.{◌≡◌, ◌⊎◌, ℕ, zero, suc, ◌+◌, ◌<◌, List, [], ◌∷◌, ◌++◌, length, map, get_or, slice_get, refl, sym, ap, inl, inr, arith}
use Rattle.std.specs.List.{Contains}
use Rattle.std.specs.Option.{IsSomeAnd}
use Rattle.xs_regex.specs.Parts.{shift, HasRow}

-- what holds of the element at a place holds there with more after
pub at_left : {X : Type 0} (P : X → Type 0) (xs ys : List X) (k : ℕ) → IsSomeAnd (slice_get xs k) P → IsSomeAnd (slice_get (xs ++ ys) k) P
at_left P [] ys k h = absurd h
at_left P (x ∷ xs) ys zero h = h
at_left P (x ∷ xs) ys (suc k) h = at_left P xs ys k h

pub at_right : {X : Type 0} (P : X → Type 0) (n : ℕ) (xs ys : List X) (k : ℕ) → length xs ≡ n → IsSomeAnd (slice_get ys k) P → IsSomeAnd (slice_get (xs ++ ys) (n + k)) P
at_right P n [] ys k e h = let e : n + k ≡ k = omega arith in rw e h
at_right P n (x ∷ xs) ys k e h = let e : n + k ≡ suc (length xs + k) = omega arith in rw e (at_right P (length xs) xs ys k refl h)

pub at_split : {X : Type 0} (P : X → Type 0) (n : ℕ) (xs ys : List X) (k : ℕ) → length xs ≡ n → IsSomeAnd (slice_get (xs ++ ys) k) P → IsSomeAnd (slice_get xs k) P ⊎ ((i : ℕ) × (k ≡ n + i) × IsSomeAnd (slice_get ys i) P)
at_split P n [] ys k e h = inr (k, omega arith, h)
at_split P n (x ∷ xs) ys zero e h = inl h
at_split P n (x ∷ xs) ys (suc k) e h = elim (at_split P (length xs) xs ys k refl h) [
  | inl a ↦ inl a
  | inr r ↦ inr (r.0, omega (arith, r.1), r.2)
]

pub at_within : {X : Type 0} (P : X → Type 0) (xs : List X) (k : ℕ) → IsSomeAnd (slice_get xs k) P → k < length xs
at_within P [] k h = absurd h
at_within P (x ∷ xs) zero h = omega arith
at_within P (x ∷ xs) (suc k) h = omega (arith, at_within P xs k h)

-- membership by recursion
abbrev pub Among : List ℕ → ℕ → Type 0
Among [] k = ⊥
Among (x ∷ xs) k = (x ≡ k) ⊎ Among xs k

pub among : (xs : List ℕ) (k : ℕ) → Contains xs k → Among xs k
among xs k c = found xs k c.0 c.1 c.2
  where
    found : (xs : List ℕ) (k i : ℕ) → i < length xs → get_or xs i k ≡ k → Among xs k
    found [] k i l e = absurd (omega arith)
    found (x ∷ xs) k zero l e = inl e
    found (x ∷ xs) k (suc i) l e = inr (found xs k i (omega arith) e)

pub contained : (xs : List ℕ) (k : ℕ) → Among xs k → Contains xs k
contained [] k a = absurd a
contained (x ∷ xs) k (inl e) = (0, omega arith, e)
contained (x ∷ xs) k (inr a) = let c = contained xs k a in (suc c.0, omega (arith, c.1), c.2)

pub contains_nil : (k : ℕ) → Contains [] k → ⊥
contains_nil k c = among [] k c

pub contains_one : (x k : ℕ) → Contains (x ∷ []) k → k ≡ x
contains_one x k c = elim (among (x ∷ []) k c) [ inl e ↦ sym e | inr a ↦ absurd a ]

-- shifted numbers
pub shift_contains : (n : ℕ) (ks : List ℕ) (k : ℕ) → Contains ks k → Contains (shift n ks) (n + k)
shift_contains n ks k c = contained _ _ (moved ks k (among ks k c))
  where
    moved : (ks : List ℕ) (k : ℕ) → Among ks k → Among (shift n ks) (n + k)
    moved [] k a = a
    moved (x ∷ ks) k (inl e) = inl (ap (λ y. n + y) e)
    moved (x ∷ ks) k (inr a) = inr (moved ks k a)

pub contains_shift : (n : ℕ) (ks : List ℕ) (x : ℕ) → Contains (shift n ks) x → (k : ℕ) × (x ≡ n + k) × Contains ks k
contains_shift n ks x c = let r = back ks x (among _ _ c) in (r.0, r.1, contained ks r.0 r.2)
  where
    back : (ks : List ℕ) (x : ℕ) → Among (shift n ks) x → (k : ℕ) × (x ≡ n + k) × Among ks k
    back [] x a = absurd a
    back (y ∷ ks) x (inl e) = (y, sym e, inl refl)
    back (y ∷ ks) x (inr a) = let r = back ks x a in (r.0, r.1, inr r.2)

pub shift_row : (n : ℕ) (rows : List (List ℕ)) (j k : ℕ) → HasRow rows j k → HasRow (map (shift n) rows) j (n + k)
shift_row n [] j k h = absurd h
shift_row n (row ∷ rows) zero k h = shift_contains n row k h
shift_row n (row ∷ rows) (suc j) k h = shift_row n rows j k h

pub row_shift : (n : ℕ) (rows : List (List ℕ)) (j x : ℕ) → HasRow (map (shift n) rows) j x → (k : ℕ) × (x ≡ n + k) × HasRow rows j k
row_shift n [] j x h = absurd h
row_shift n (row ∷ rows) zero x h = contains_shift n row x h
row_shift n (row ∷ rows) (suc j) x h = row_shift n rows j x h

pub split_below : (k n : ℕ) → (k < n) ⊎ ((m : ℕ) × (k ≡ n + m))
split_below k zero = inr (k, omega arith)
split_below zero (suc n) = inl (omega arith)
split_below (suc k) (suc n) = elim (split_below k n) [
  | inl h ↦ inl (omega arith)
  | inr h ↦ inr (h.0, omega (arith, h.1))
]
