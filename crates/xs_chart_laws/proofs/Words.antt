-- Places of a word, and the word between two of them.
use Rattle.std.proofs.Common.{◌≡◌, ℕ, zero, suc, ◌+◌, ◌-◌, ◌<◌, ◌≤◌, List, [], ◌∷◌, ◌++◌, length, take, drop, Some, refl, ap, arith}
use Rattle.std.specs.Prelude.{slice_get, slice_range}
use Rattle.xs_chart_laws.specs.Reading.{Reads}

pub get_drop : {X : Type 0} (xs : List X) (i : ℕ) (x : X) → slice_get xs i ≡ Some x → drop i xs ≡ x ∷ drop (suc i) xs
get_drop [] i x e = cc
get_drop (y ∷ xs) zero x e = cc
get_drop (y ∷ xs) (suc i) x e = get_drop xs i x e

pub drop_get : {X : Type 0} (xs : List X) (i : ℕ) (x : X) (ys : List X) → drop i xs ≡ x ∷ ys → (slice_get xs i ≡ Some x) × (drop (suc i) xs ≡ ys)
drop_get [] zero x ys e = (cc, cc)
drop_get [] (suc i) x ys e = (cc, cc)
drop_get (y ∷ xs) zero x ys e = (cc, cc)
drop_get (y ∷ xs) (suc i) x ys e = drop_get xs i x ys e

pub get_take : {X : Type 0} (xs : List X) (i : ℕ) (x : X) → slice_get xs i ≡ Some x → take (suc i) xs ≡ take i xs ++ x ∷ []
get_take [] i x e = cc
get_take (y ∷ xs) zero x e = cc
get_take (y ∷ xs) (suc i) x e = ap (λ (zs : List _). y ∷ zs) (get_take xs i x e)

pub get_lt : {X : Type 0} (xs : List X) (i : ℕ) (x : X) → slice_get xs i ≡ Some x → i < length xs
get_lt [] i x e = cc
get_lt (y ∷ xs) zero x e = omega arith
get_lt (y ∷ xs) (suc i) x e = omega (arith, get_lt xs i x e)

pub get_some : {X : Type 0} (xs : List X) (i : ℕ) → i < length xs → (x : X) × (slice_get xs i ≡ Some x)
get_some [] i h = absurd (omega arith)
get_some (y ∷ xs) zero h = (y, refl)
get_some (y ∷ xs) (suc i) h = get_some xs i (omega arith)

pub Reads-split : (w : List ℕ) (i : ℕ) (u v : List ℕ) (k : ℕ) → Reads w i (u ++ v) k → (j : ℕ) × Reads w i u j × Reads w j v k
Reads-split w i [] v k h = (i, refl, h)
Reads-split w i (x ∷ u) v k h = let r = Reads-split w (suc i) u v k h.1 in (r.0, (h.0, r.1), r.2)

pub Reads-join : (w : List ℕ) (i : ℕ) (u v : List ℕ) (j k : ℕ) → Reads w i u j → Reads w j v k → Reads w i (u ++ v) k
Reads-join w i [] v j k e h = rw e h
Reads-join w i (x ∷ u) v j k r h = (r.0, Reads-join w (suc i) u v j k r.1 h)

pub Reads-is : (w : List ℕ) (i : ℕ) (u : List ℕ) (j : ℕ) → Reads w i u j → j ≡ i + length u
Reads-is w i [] j e = omega arith
Reads-is w i (x ∷ u) j r = omega (arith, Reads-is w (suc i) u j r.1)

pub Reads-within : (w : List ℕ) (i : ℕ) (u : List ℕ) (j : ℕ) → i ≤ length w → Reads w i u j → j ≤ length w
Reads-within w i [] j h e = omega arith
Reads-within w i (x ∷ u) j h r = Reads-within w (suc i) u j (get_lt w i x r.0) r.1

Reads-take_drop : (w : List ℕ) (i : ℕ) (u : List ℕ) (j : ℕ) → Reads w i u j → take (length u) (drop i w) ≡ u
Reads-take_drop w i [] j r = refl
Reads-take_drop w i (x ∷ u) j r = rw (get_drop w i x r.0) (ap (λ (zs : List ℕ). x ∷ zs) (Reads-take_drop w (suc i) u j r.1))

-- the word between two places is what stands there
pub Reads-slice : (w : List ℕ) (i : ℕ) (u : List ℕ) (j : ℕ) → Reads w i u j → slice_range w i j ≡ u
Reads-slice w i u j r =
    let e : j - i ≡ length u = omega (arith, Reads-is w i u j r) in
    rw e (Reads-take_drop w i u j r)

Reads-from_take : (w : List ℕ) (i n : ℕ) → i + n ≤ length w → Reads w i (take n (drop i w)) (i + n)
Reads-from_take w i zero h = omega arith
Reads-from_take w i (suc n) h =
    let s = get_some w i (omega arith) in
    let ih = Reads-from_take w (suc i) n (omega arith) in
    let e : suc i + n ≡ i + suc n = omega arith in
    rw (get_drop w i s.0 s.1) (s.1, rw e at ih)

pub Reads-from_slice : (w : List ℕ) (i j : ℕ) → i ≤ j → j ≤ length w → Reads w i (slice_range w i j) j
Reads-from_slice w i j h k =
    let e : i + (j - i) ≡ j = omega arith in
    rw e at (Reads-from_take w i (j - i) (omega arith))

pub Reads-same : (w : List ℕ) (i : ℕ) (u v : List ℕ) (j : ℕ) → u ≡ v → Reads w i u j → Reads w i v j
Reads-same w i u v j e r = rw e at r
