-- What stands in a list under distinct numbers is found.
use Rattle.std.proofs.Common.{◌≡◌, ◌≢◌, ℕ, suc, List, [], ◌∷◌, length, refl, ap, Some, arith}
use Rattle.std.proofs.lemmas.Bool.Decides.{nat_tests}
use Rattle.xs_gram.specs.Common.{lookup}
use Rattle.xs_gram.specs.Laws.{Every, IsDistinct}

-- P holds of each entry
abbrev pub AllOf : {A : Type 0} → (ℕ × A → Type 0) → List (ℕ × A) → Type 0
AllOf P [] = Unit {0}
AllOf P (e ∷ es) = P e × AllOf P es

abbrev pub keys : {A : Type 0} → List (ℕ × A) → List ℕ
keys [] = []
keys (e ∷ es) = e.0 ∷ keys es

pub length-keys : {A : Type 0} (es : List (ℕ × A)) → length (keys es) ≡ length es
length-keys [] = refl
length-keys (e ∷ es) = ap suc (length-keys es)

pub by_keys : {A : Type 0} (P : ℕ → Type 0) (es : List (ℕ × A)) → Every P (keys es) → AllOf (λ e. P e.0) es
by_keys P [] every = tt
by_keys P (e ∷ es) every = (every.0, by_keys P es every.1)

-- another entry in front changes nothing at other numbers
found_after : {A : Type 0} (h : ℕ × A) (es xs : List (ℕ × A)) → AllOf (λ e. lookup e.0 es ≡ Some e.1) xs → AllOf (λ e. e.0 ≢ h.0) xs → AllOf (λ e. lookup e.0 (h ∷ es) ≡ Some e.1) xs
found_after h es [] all other = tt
found_after {A = A} h es (x ∷ xs) all other = (here x.0 x.1 all.0 other.0, found_after h es xs all.1 other.1)
  where
    here : (k : ℕ) (t : A) → lookup k es ≡ Some t → k ≢ h.0 → lookup k (h ∷ es) ≡ Some t
    here k t is ne = grind (arith, nat_tests)

pub each_found : {A : Type 0} (es : List (ℕ × A)) → IsDistinct (keys es) → AllOf (λ e. lookup e.0 es ≡ Some e.1) es
each_found [] distinct = tt
each_found {A = A} (e ∷ es) distinct = (own e.0 e.1, found_after e es es (each_found es distinct.1) (by_keys (λ m. m ≢ e.0) es distinct.0))
  where
    own : (k : ℕ) (t : A) → lookup k ((k, t) ∷ es) ≡ Some t
    own k t = grind (arith, nat_tests)
