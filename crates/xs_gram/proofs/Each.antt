-- What holds of each element of a list.
use Rattle.std.proofs.Common.{◌≡◌, ℕ, zero, suc, ◌<◌, List, [], ◌∷◌, ◌++◌, length, map, subst, arith, Some, slice_get, slice_index_or}
use Rattle.std.proofs.lemmas.Option.{same_Some, none-some}
use Rattle.xs_gram.specs.Building.{EachOf}

-- it holds at each number, where it holds of what stands for one that is not there
pub each_or : {A : Type 0} (P : A → Type 0) (xs : List A) (d : A) (n : ℕ) → EachOf P xs → P d → P (slice_index_or xs n d)
each_or P [] d zero each at = at
each_or P [] d (suc n) each at = at
each_or P (x ∷ xs) d zero each at = each.0
each_or P (x ∷ xs) d (suc n) each at = each_or P xs d n each.1 at

pub each_within : {A : Type 0} (P : A → Type 0) (xs : List A) (d : A) (n : ℕ) → EachOf P xs → n < length xs → P (slice_index_or xs n d)
each_within P [] d n each lt = absurd (omega arith)
each_within P (x ∷ xs) d zero each lt = each.0
each_within P (x ∷ xs) d (suc n) each lt = each_within P xs d n each.1 (omega arith)

pub each_get : {A : Type 0} (P : A → Type 0) (xs : List A) (n : ℕ) (x : A) → EachOf P xs → slice_get xs n ≡ Some x → P x
each_get P [] n x each is = absurd (none-some x is)
each_get P (y ∷ xs) zero x each is = subst P (same_Some y x is) each.0
each_get P (y ∷ xs) (suc n) x each is = each_get P xs n x each.1 is

pub each_map : {A B : Type 0} (f : A → B) (P : B → Type 0) (xs : List A) → EachOf P (map f xs) → EachOf (λ x. P (f x)) xs
each_map f P [] each = tt
each_map f P (x ∷ xs) each = (each.0, each_map f P xs each.1)

pub each_both : {A : Type 0} (P Q R : A → Type 0) → ((x : A) → P x → Q x → R x) → (xs : List A) → EachOf P xs → EachOf Q xs → EachOf R xs
each_both P Q R f [] p q = tt
each_both P Q R f (x ∷ xs) p q = (f x p.0 q.0, each_both P Q R f xs p.1 q.1)

pub each_weaker : {A : Type 0} (P Q : A → Type 0) → ((x : A) → P x → Q x) → (xs : List A) → EachOf P xs → EachOf Q xs
each_weaker P Q f [] p = tt
each_weaker P Q f (x ∷ xs) p = (f x p.0, each_weaker P Q f xs p.1)

pub each_push : {A : Type 0} (P : A → Type 0) (xs : List A) (x : A) → EachOf P xs → P x → EachOf P (xs ++ x ∷ [])
each_push P [] x each here = (here, tt)
each_push P (y ∷ xs) x each here = (each.0, each_push P xs x each.1 here)

pub each_append : {A : Type 0} (P : A → Type 0) (xs ys : List A) → EachOf P xs → EachOf P ys → EachOf P (xs ++ ys)
each_append P [] ys p q = q
each_append P (x ∷ xs) ys p q = (p.0, each_append P xs ys p.1 q)
