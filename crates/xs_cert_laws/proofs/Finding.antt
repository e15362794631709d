-- What lists have that are made of numbers between two bounds, by a test and a function of each.
use Rattle.std.proofs.Common.{◌≡◌, ℕ, zero, suc, ◌+◌, ◌-◌, ◌<◌, ◌≤◌, Bool, true, false, cond, List, [], ◌∷◌, map, flat_map, filter, ap, ◌∙◌, arith, inl, inr}
use Rattle.std.specs.List.{Contains, range_with_len}
use Rattle.std.proofs.lemmas.Bool.{cases_eq}
use Rattle.std.proofs.lemmas.List.Elements.{Contains-append_left, Contains-append_right}
use Rattle.xs_class.proofs.Lists.{first_in, rest_in}
use Rattle.xs_cert_laws.specs.Certificates.{between}

range_has : (len low n : ℕ) → low ≤ n → n < low + len → Contains (range_with_len low len) n
range_has zero low n le lt = absurd (omega arith)
range_has (suc len) low n le lt = elim (cases_eq low n) [
  | inl e ↦ rw (← e) (first_in low (range_with_len (low + 1) len))
  | inr other ↦ rest_in low (range_with_len (low + 1) len) n (range_has len (low + 1) n (omega arith) (omega arith))
]

pub between_has : (low high n : ℕ) → low ≤ n → n < high → Contains (between low high) n
between_has low high n le lt = range_has (high - low) low n le (omega arith)

pub map_has : {X Y : Type 0} (f : X → Y) (xs : List X) (x : X) → Contains xs x → Contains (map f xs) (f x)
map_has f [] x at = absurd (omega (arith, at.1))
map_has f (y ∷ ys) x (zero, lt, e) = let same : y ≡ x = e in rw (← same) (first_in (f y) (map f ys))
map_has f (y ∷ ys) x (suc k, lt, e) = rest_in (f y) (map f ys) (f x) (map_has f ys x (k, omega arith, e))

-- an element that the image has is the image of one
pub record IsImage {X Y : Type 0} (f : X → Y) (xs : List X) (y : Y) : Type 0 where
  pub x : X
  pub there : Contains xs x
  pub is : f x ≡ y

pub map_of : {X Y : Type 0} (f : X → Y) (xs : List X) (y : Y) → Contains (map f xs) y → IsImage f xs y
map_of f [] y at = absurd (omega (arith, at.1))
map_of f (x ∷ xs) y (zero, lt, e) = record { x = x; there = first_in x xs; is = e }
map_of f (x ∷ xs) y (suc k, lt, e) = let i = map_of f xs y (k, omega arith, e) in record { x = i.x; there = rest_in x xs i.x i.there; is = i.is }

pub filter_has : {X : Type 0} (test : X → Bool) (xs : List X) (x : X) → Contains xs x → test x ≡ true → Contains (filter test xs) x
filter_has test [] x at t = absurd (omega (arith, at.1))
filter_has test (y ∷ ys) x (zero, lt, e) t =
    let same : y ≡ x = e in
    let passes : test y ≡ true = ap test same ∙ t in
    rw (passes, ← same) (first_in y (filter test ys))
filter_has test (y ∷ ys) x (suc k, lt, e) t =
    put (test y) y (filter test ys) x (filter_has test ys x (k, omega arith, e) t)
  where
    put : {X : Type 0} (b : Bool) (y : X) (zs : List X) (x : X) → Contains zs x → Contains (cond b (y ∷ zs) zs) x
    put true y zs x there = rest_in y zs x there
    put false y zs x there = there

pub flat_has : {X Y : Type 0} (f : X → List Y) (xs : List X) (x : X) (y : Y) → Contains xs x → Contains (f x) y → Contains (flat_map f xs) y
flat_has f [] x y at of = absurd (omega (arith, at.1))
flat_has f (z ∷ zs) x y (zero, lt, e) of = Contains-append_left (f z) (flat_map f zs) y (let same : z ≡ x = e in rw (← same) at of)
flat_has f (z ∷ zs) x y (suc k, lt, e) of = Contains-append_right (f z) (flat_map f zs) y (flat_has f zs x y (k, omega arith, e) of)
