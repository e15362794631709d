-- Lists, their elements and stretches, and what an option has.
use Rattle.std.proofs.Common.{arith, ◌≤◌, ◌<◌, ◌+◌, ◌-◌, ◌*◌, ◌/◌, ◌≡◌, ◌∙◌, ◌⊎◌, inl, inr, ℕ, zero, suc, List, [], ◌∷◌, ◌++◌, length, length-append, get_or, take, drop, Some, refl, sym, ap, zero-add, Vec, Global, vec_len}
use Rattle.std.proofs.lemmas.Nat.{div-mul-add}
use Rattle.std.proofs.lemmas.Option.{slice_get-get_or, slice_get_within, get_or_from_slice_get}
use Rattle.std.proofs.lemmas.List.{take_more}
use Rattle.std.specs.declared.option.Option.{Option}
use Rattle.std.specs.Prelude.{slice_get, slice_range, Contains}
use Rattle.std.proofs.Math.Seq.{take-length}

-- an option has one value
pub some_same : {X : Type 0} (o : Option X) (x y : X) → o ≡ Some x → o ≡ Some y → x ≡ y
some_same o x y e h = cc

pub some_inj : {A : Type 0} (x y : A) → Some x ≡ Some y → x ≡ y
some_inj x y h = cc

pub some_pair : {A B : Type 0} (a c : A) (b d : B) → ◌≡◌ {A = Option (A × B)} (Some (a, b)) (Some (c, d)) → (a ≡ c) × (b ≡ d)
some_pair {A} {B} a c b d e = let same : ◌≡◌ {A = A × B} (a, b) (c, d) = some_inj (a, b) (c, d) e in (ap (λ (p : A × B). p.0) same, ap (λ (p : A × B). p.1) same)

pub first_in : {X : Type 0} (x : X) (xs : List X) → Contains (x ∷ xs) x
first_in x xs = (0, omega arith, refl)

pub rest_in : {X : Type 0} (x : X) (xs : List X) (y : X) → Contains xs y → Contains (x ∷ xs) y
rest_in x xs y (n, lt, e) = (suc n, omega arith, e)

pub one_contains : (x : ℕ) → Contains (x ∷ []) x
one_contains x = (0, omega arith, refl)

pub nothing_in : (xs : List ℕ) (x : ℕ) → xs ≡ [] → Contains xs x → ⊥
nothing_in xs x e h = let none = rw e at h in omega (arith, none.1)

-- what a list contains stands at a place of it
pub get_of : {X : Type 0} (xs : List X) (x : X) → Contains xs x → (n : ℕ) × (slice_get xs n ≡ Some x)
get_of xs x (n, lt, e) = (n, slice_get-get_or xs n x lt ∙ ap (λ y. Some y) e)

pub contains_of : {X : Type 0} (xs : List X) (n : ℕ) (x : X) → slice_get xs n ≡ Some x → Contains xs x
contains_of xs n x e = (n, slice_get_within xs n x e, get_or_from_slice_get xs n x x e)

-- an element of two lists after one another
pub get_of_two : {A : Type 0} (xs ys : List A) (k : ℕ) (x : A) → slice_get (xs ++ ys) k ≡ Some x → (slice_get xs k ≡ Some x) ⊎ ((j : ℕ) × (k ≡ length xs + j) × (slice_get ys j ≡ Some x))
get_of_two [] ys k x e = inr (k, omega arith, e)
get_of_two (y ∷ xs) ys zero x e = inl e
get_of_two (y ∷ xs) ys (suc k) x e = elim (get_of_two xs ys k x e) [ inl h ↦ inl h | inr h ↦ inr (h.0, omega (arith, h.1), h.2) ]

-- what two lists begin with, and what follows
pub cons_parts : {A : Type 0} {s t : A} {u v : List A} → s ∷ u ≡ t ∷ v → (s ≡ t) × (u ≡ v)
cons_parts e = (cc, cc)

pub cons_same : {A : Type 0} {s t : A} {u v : List A} → s ≡ t → u ≡ v → s ∷ u ≡ t ∷ v
cons_same p q = cc

-- the number of a list's elements
pub len_is : {X : Type 0} (v : Vec X Global) → vec_len v ≡ length v.items
len_is v = omega (arith, v.ok)

-- empty lists
pub front_empty : (u v : List ℕ) → u ++ v ≡ [] → u ≡ []
front_empty [] v e = refl
front_empty (x ∷ u) v e = cc

pub rest_empty : (u v : List ℕ) → u ++ v ≡ [] → v ≡ []
rest_empty [] v e = e
rest_empty (x ∷ u) v e = cc

pub not_empty : (v : List ℕ) (s : ℕ) → [] ≡ v ++ s ∷ [] → ⊥
not_empty [] s e = cc
not_empty (x ∷ v) s e = cc

pub some_length : (f : List ℕ) → 0 < length f → f ≡ [] → ⊥
some_length [] lt e = absurd (omega arith)
some_length (x ∷ f) lt e = cc

-- lengths and stretches
pub one_longer : {X : Type 0} (xs : List X) (x : X) → length (xs ++ x ∷ []) ≡ suc (length xs)
one_longer [] x = refl
one_longer (y ∷ xs) x = ap suc (one_longer xs x)

pub after_long : (xs ys : List ℕ) → length ys ≤ length (xs ++ ys)
after_long xs ys = omega (arith, length-append xs ys)

pub slice_all : (w : List ℕ) → slice_range w 0 (length w) ≡ w
slice_all w = let e : length w - 0 ≡ length w = omega arith in rw e (take-length w)

-- what a list with one more element has
pub get_push : {X : Type 0} (xs : List X) (y x : X) (k : ℕ) → slice_get (xs ++ y ∷ []) k ≡ Some x → (slice_get xs k ≡ Some x) ⊎ ((k ≡ length xs) × (y ≡ x))
get_push [] y x zero e = inr (refl, cc)
get_push [] y x (suc k) e = cc
get_push (z ∷ xs) y x zero e = inl e
get_push (z ∷ xs) y x (suc k) e = elim (get_push xs y x k e) [ inl old ↦ inl old | inr new ↦ inr (ap suc new.0, new.1) ]

pub get_last : {X : Type 0} (xs : List X) (x : X) → slice_get (xs ++ x ∷ []) (length xs) ≡ Some x
get_last [] x = refl
get_last (y ∷ xs) x = get_last xs x

-- what stands in a list stands there when more is added, and in a front that is long enough
pub get_left : {X : Type 0} (xs ys : List X) (k : ℕ) (x : X) → slice_get xs k ≡ Some x → slice_get (xs ++ ys) k ≡ Some x
get_left [] ys k x e = cc
get_left (y ∷ xs) ys zero x e = e
get_left (y ∷ xs) ys (suc k) x e = get_left xs ys k x e

pub get_taken : {X : Type 0} (xs : List X) (d k : ℕ) (x : X) → k < d → slice_get xs k ≡ Some x → slice_get (take d xs) k ≡ Some x
get_taken [] d k x lt e = cc
get_taken (y ∷ xs) zero k x lt e = absurd (omega arith)
get_taken (y ∷ xs) (suc d) zero x lt e = e
get_taken (y ∷ xs) (suc d) (suc k) x lt e = get_taken xs d k x (omega arith) e

pub take_next : {X : Type 0} (xs : List X) (i : ℕ) (x : X) → i < length xs → x ≡ get_or xs i x → take (i + 1) xs ≡ take i xs ++ x ∷ []
take_next xs i x lt at = take_more xs i x lt ∙ ap (λ y. take i xs ++ y ∷ []) (sym at)

-- what stands in the rest of a list
pub get_drop : {X : Type 0} (xs : List X) (n k : ℕ) → slice_get (drop n xs) k ≡ slice_get xs (n + k)
get_drop xs zero k = rw (zero-add k)
get_drop [] (suc n) k = refl
get_drop (x ∷ xs) (suc n) k = let e : suc n + k ≡ suc (n + k) = omega arith in rw e (get_drop xs n k)

-- cells of a table, row by row: one cell for each pair
pub one_cell : (w a b c d : ℕ) → b < w → d < w → a * w + b ≡ c * w + d → (a ≡ c) × (b ≡ d)
one_cell w a b c d h k e =
    let same : a ≡ c = sym (div-mul-add a w b h) ∙ ap (λ x. x / w) e ∙ div-mul-add c w d k in
    (same, omega (arith, ap (λ x. x * w) same))
