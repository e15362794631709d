-- What holds of each element of a list.
use Rattle.std.proofs.Common.{◌≡◌, ◌<◌, ℕ, zero, suc, length, arith, List, [], ◌∷◌, ◌++◌, map, get_or, take, drop, Some, refl}
use Rattle.std.specs.Prelude.{slice_get}
use Rattle.std.specs.List.{flat_map, insert}
use Rattle.xs_gram.proofs.Each.{each_append}
use Rattle.xs_gram.specs.Building.{EachOf}

pub each_front : {A : Type 0} (P : A → Type 0) (xs ys : List A) → EachOf P (xs ++ ys) → EachOf P xs
each_front P [] ys p = tt
each_front P (x ∷ xs) ys p = (p.0, each_front P xs ys p.1)

pub each_back : {A : Type 0} (P : A → Type 0) (xs ys : List A) → EachOf P (xs ++ ys) → EachOf P ys
each_back P [] ys p = p
each_back P (x ∷ xs) ys p = each_back P xs ys p.1

pub each_of_map : {A B : Type 0} (P : B → Type 0) (f : A → B) (xs : List A) → EachOf P (map f xs) → EachOf (λ x. P (f x)) xs
each_of_map P f [] p = tt
each_of_map P f (x ∷ xs) p = (p.0, each_of_map P f xs p.1)

pub each_map : {A B : Type 0} (P : B → Type 0) (f : A → B) (xs : List A) → EachOf (λ x. P (f x)) xs → EachOf P (map f xs)
each_map P f [] p = tt
each_map P f (x ∷ xs) p = (p.0, each_map P f xs p.1)

pub each_flat_map : {A B : Type 0} (P : B → Type 0) (f : A → List B) (xs : List A) → EachOf (λ x. EachOf P (f x)) xs → EachOf P (flat_map f xs)
each_flat_map P f [] p = tt
each_flat_map P f (x ∷ xs) p = each_append P (f x) (flat_map f xs) p.0 (each_flat_map P f xs p.1)

pub each_at : {A : Type 0} (P : A → Type 0) (xs : List A) (k : ℕ) (d : A) → P d → EachOf P xs → P (get_or xs k d)
each_at P [] k d here p = here
each_at P (x ∷ xs) zero d here p = p.0
each_at P (x ∷ xs) (suc k) d here p = each_at P xs k d here p.1

pub each_get : {A : Type 0} (Q : A → Type 0) (xs : List A) → ((k : ℕ) (x : A) → slice_get xs k ≡ Some x → Q x) → EachOf Q xs
each_get Q [] f = tt
each_get Q (x ∷ xs) f = (f 0 x refl, each_get Q xs (λ k y at. f (suc k) y at))

-- an element put among others
pub each_taken : {A : Type 0} (P : A → Type 0) (xs : List A) (k : ℕ) → EachOf P (take k xs) → EachOf P (drop k xs) → EachOf P xs
each_taken P [] k p q = tt
each_taken P (x ∷ xs) zero p q = q
each_taken P (x ∷ xs) (suc k) p q = (p.0, each_taken P xs k p.1 q)

pub each_inserted : {A : Type 0} (P : A → Type 0) (xs : List A) (k : ℕ) (x : A) → EachOf P (insert xs k x) → P x × EachOf P xs
each_inserted P xs k x p =
    let back = each_back P (take k xs) (x ∷ drop k xs) p in
    (back.0, each_taken P xs k (each_front P (take k xs) (x ∷ drop k xs) p) back.1)

pub each_take : {A : Type 0} (P : A → Type 0) (xs : List A) (k : ℕ) → EachOf P xs → EachOf P (take k xs)
each_take P [] zero p = tt
each_take P [] (suc k) p = tt
each_take P (x ∷ xs) zero p = tt
each_take P (x ∷ xs) (suc k) p = (p.0, each_take P xs k p.1)

pub each_drop : {A : Type 0} (P : A → Type 0) (xs : List A) (k : ℕ) → EachOf P xs → EachOf P (drop k xs)
each_drop P [] zero p = tt
each_drop P [] (suc k) p = tt
each_drop P (x ∷ xs) zero p = p
each_drop P (x ∷ xs) (suc k) p = each_drop P xs k p.1

pub each_of_flat_map : {A B : Type 0} (P : B → Type 0) (f : A → List B) (xs : List A) → EachOf P (flat_map f xs) → EachOf (λ x. EachOf P (f x)) xs
each_of_flat_map P f [] p = tt
each_of_flat_map P f (x ∷ xs) p = (each_front P (f x) (flat_map f xs) p, each_of_flat_map P f xs (each_back P (f x) (flat_map f xs) p))

pub each_in : {A : Type 0} (P : A → Type 0) (xs : List A) (k : ℕ) (d : A) → k < length xs → EachOf P xs → P (get_or xs k d)
each_in P [] k d lt p = absurd (omega arith)
each_in P (x ∷ xs) zero d lt p = p.0
each_in P (x ∷ xs) (suc k) d lt p = each_in P xs k d (omega arith) p.1

pub each_insert : {A : Type 0} (P : A → Type 0) (xs : List A) (k : ℕ) (x : A) → P x → EachOf P xs → EachOf P (insert xs k x)
each_insert P xs k x p q = each_append P (take k xs) (x ∷ drop k xs) (each_take P xs k q) (p, each_drop P xs k q)
