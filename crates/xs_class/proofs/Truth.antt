-- Tests that come out true or false.
use Rattle.std.proofs.lemmas.Bool.Decides.{nat_tests}
use Rattle.std.proofs.Common.{nat_le, nat_lt, arith, ◌≤◌, ◌<◌, ◌≡◌, ℕ, true, false, Bool, not, ◌&&◌, ◌||◌, ◌==◌, refl, ap, eqb-true, if◌then◌else◌}

pub and_true : (a b : Bool) → (a && b) ≡ true → (a ≡ true) × (b ≡ true)
and_true true b is = (refl, is)
and_true false b is = absurd (cc)

pub both_true : (a b : Bool) → a ≡ true → b ≡ true → (a && b) ≡ true
both_true a b x y = rw (x, y) refl

pub and_no : (a : Bool) → (a && false) ≡ false
and_no true = refl
and_no false = refl

pub or_left : (a b : Bool) → a ≡ true → (a || b) ≡ true
or_left a b is = rw is refl

pub or_right : (a b : Bool) → b ≡ true → (a || b) ≡ true
or_right true b is = refl
or_right false b is = is

pub or_false : (a b : Bool) → (a || b) ≡ false → (a ≡ false) × (b ≡ false)
or_false true b is = absurd (cc)
or_false false b is = (refl, is)

pub neither : (a b : Bool) → a ≡ false → b ≡ false → (a || b) ≡ false
neither a b x y = rw (x, y) refl

pub not_true : (a : Bool) → not a ≡ true → a ≡ false
not_true true is = absurd (cc)
not_true false is = refl

pub is_not : (a : Bool) → a ≡ false → not a ≡ true
is_not a is = rw is refl

pub false_true : false ≡ true → ⊥
false_true e = cc

pub if_true : {A : Type 0} (b : Bool) (x y : A) → b ≡ true → (if b then x else y) ≡ x
if_true true x y e = refl
if_true false x y e = cc

pub if_false : {A : Type 0} (b : Bool) (x y : A) → b ≡ false → (if b then x else y) ≡ y
if_false true x y e = cc
if_false false x y e = refl

-- tests of numbers
pub eq_self : (x : ℕ) → (x == x) ≡ true
eq_self x = grind (arith, nat_tests)

pub le_is : (a b : ℕ) → nat_le a b ≡ true → a ≤ b
le_is a b is = grind (arith, nat_tests)

pub le_true : (a b : ℕ) → a ≤ b → nat_le a b ≡ true
le_true a b h = grind (arith, nat_tests)

pub lt_is : (a b : ℕ) → nat_lt a b ≡ true → a < b
lt_is a b is = grind (arith, nat_tests)

pub lt_true : (a b : ℕ) → a < b → nat_lt a b ≡ true
lt_true a b h = grind (arith, nat_tests)

-- a test that distinguishes two numbers
pub no_other : (f : ℕ → Bool) (c d : ℕ) → f c ≡ true → f d ≡ false → (c == d) ≡ false
no_other f c d is_so is_not_so = by (c == d) refl
  where
    by : (t : Bool) → (c == d) ≡ t → t ≡ false
    by true e = let same : c ≡ d = eqb-true c d e in let g : f c ≡ f d = ap f same in absurd (cc)
    by false e = refl
