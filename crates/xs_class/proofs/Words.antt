-- Words that are the same.
use Rattle.std.proofs.Common.{◌≡◌, ◌==◌, true, List, [], ◌∷◌, ℕ, refl, eqb-true}
use Rattle.xs_class.specs.Words.{same}
use Rattle.xs_class.proofs.Truth.{and_true, eq_self}

pub same_is : (xs ys : List ℕ) → same xs ys ≡ true → xs ≡ ys
same_is [] [] is = refl
same_is [] (y ∷ ys) is = absurd (cc)
same_is (x ∷ xs) [] is = absurd (cc)
same_is (x ∷ xs) (y ∷ ys) is = let p = and_true (x == y) (same xs ys) is in by (eqb-true x y p.0) (same_is xs ys p.1)
  where
    by : x ≡ y → xs ≡ ys → (x ∷ xs) ≡ y ∷ ys
    by e f = cc

pub same_self : (xs : List ℕ) → same xs xs ≡ true
same_self [] = refl
same_self (x ∷ xs) = rw (eq_self x) (same_self xs)
