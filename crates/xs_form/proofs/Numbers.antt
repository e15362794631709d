-- The number of a reference, kept below a bound.
use Rattle.std.proofs.Common.{◌≡◌, ℕ, suc, ◌+◌, ◌*◌, ◌≤◌, ◌<◌, nat_le, min, add-one, List, [], ◌∷◌, length, drop, get_or, drop-cons, drop_of_length-le, Bool, true, false, ◌&&◌, refl, sym, ◌∙◌, ap, arith}
use Rattle.std.proofs.Math.Nat.{mul-le-mul_left}
use Rattle.std.proofs.lemmas.Bool.Decides.{nat_tests}
use Rattle.xs_xml_laws.specs.Tables.{is_char, is_hex, is_digit}
use Rattle.xs_xml_laws.specs.Piece.{number, when, all_of}
use Rattle.xs_form.specs.declared.references.Base.{Base}
use Rattle.xs_form.specs.declared.references.Base.TheVariants.{Decimal, Hexadecimal}
use Rattle.xs_form.specs.Digits.{is_digit_of}
use Rattle.xs_class.specs.Words.{hex_value}

pub hex_low : (c : ℕ) → is_hex c ≡ true → 48 ≤ c
unfolding is_hex
hex_low c is = grind (arith, nat_tests, is)

pub hex_middle : (c : ℕ) → is_hex c ≡ true → 57 < c → 65 ≤ c
unfolding is_hex
hex_middle c is above = grind (arith, nat_tests, is)

pub hex_high : (c : ℕ) → is_hex c ≡ true → 70 < c → (97 ≤ c) × (c ≤ 102)
unfolding is_hex
hex_high c is above = (grind (arith, nat_tests, is), grind (arith, nat_tests, is))

digit_hex : (c : ℕ) → is_digit c ≡ true → is_hex c ≡ true
unfolding is_hex is_digit
digit_hex c is = grind (arith, nat_tests, is)

pub digit_of_hex : (base : Base) (c : ℕ) → is_digit_of base c ≡ true → is_hex c ≡ true
digit_of_hex Decimal c is = digit_hex c is
digit_of_hex Hexadecimal c is = is

grown : (b h x : ℕ) → 1 ≤ b → 1114112 ≤ x → min (x * b + h) 1114112 ≡ min (1114112 * b + h) 1114112
grown b h x one large =
    let p : x * 1 ≤ x * b = mul-le-mul_left x one in
    omega (arith, p)

capped_step : (b h x : ℕ) → 1 ≤ b → min (x * b + h) 1114112 ≡ min (min x 1114112 * b + h) 1114112
capped_step b h x one = by (nat_le x 1114112) refl
  where
    by : (t : Bool) → nat_le x 1114112 ≡ t → min (x * b + h) 1114112 ≡ min (min x 1114112 * b + h) 1114112
    by true is = let same : min x 1114112 ≡ x = grind (arith, nat_tests) in rw same refl
    by false is =
        let low : 1114112 ≤ x = grind (arith, nat_tests) in
        let same : min x 1114112 ≡ 1114112 = omega arith in rw same (grown b h x one low)

pub capped : (b x : ℕ) (ds : List ℕ) → 1 ≤ b → min (number b x ds) 1114112 ≡ min (number b (min x 1114112) ds) 1114112
capped b x [] one = omega arith
capped b x (d ∷ ds) one =
    capped b (x * b + hex_value d) ds one
    ∙ ap (λ (y : ℕ). min (number b y ds) 1114112) (capped_step b (hex_value d) x one)
    ∙ sym (capped b (min x 1114112 * b + hex_value d) ds one)

-- one more digit
pub drop_next : (ds : List ℕ) (i e : ℕ) → i < length ds → e ≡ get_or ds i e → drop i ds ≡ e ∷ drop (i + 1) ds
drop_next ds i e low is = rw add-one (drop-cons ds i e low ∙ ap (λ (y : ℕ). y ∷ drop (suc i) ds) (sym is))

pub digit_step : (f : ℕ → Bool) (b n x h e : ℕ) (ds : List ℕ) (i : ℕ) (t : Bool) → 1 ≤ b → i < length ds → e ≡ get_or ds i e → f e ≡ true → h ≡ hex_value e → t ≡ all_of f (drop i ds) → min n 1114112 ≡ min (number b x (drop i ds)) 1114112 → (t ≡ all_of f (drop (i + 1) ds)) × (min n 1114112 ≡ min (number b (min (x * b + h) 1114112) (drop (i + 1) ds)) 1114112)
digit_step f b n x h e ds i t one low is class value all so_far =
    let next = drop_next ds i e low is in
    let a : all_of f (e ∷ drop (i + 1) ds) ≡ all_of f (drop (i + 1) ds) = rw class refl in
    let s : number b x (e ∷ drop (i + 1) ds) ≡ number b (x * b + h) (drop (i + 1) ds) = rw value refl in (
      all ∙ ap (λ (y : List ℕ). all_of f y) next ∙ a,
      so_far ∙ ap (λ (y : List ℕ). min (number b x y) 1114112) next ∙ ap (λ (y : ℕ). min y 1114112) s ∙ capped b (x * b + h) (drop (i + 1) ds) one,
    )

pub digit_end : (f : ℕ → Bool) (b n x : ℕ) (ds : List ℕ) (i : ℕ) (t : Bool) → length ds ≤ i → x ≤ 1114112 → t ≡ all_of f (drop i ds) → min n 1114112 ≡ min (number b x (drop i ds)) 1114112 → (t ≡ true) × (min n 1114112 ≡ x)
digit_end f b n x ds i t end low all so_far =
    let none : drop i ds ≡ [] = drop_of_length-le ds end in
    let x_is : min x 1114112 ≡ x = omega arith in
    (all ∙ ap (λ (y : List ℕ). all_of f y) none, so_far ∙ ap (λ (y : List ℕ). min (number b x y) 1114112) none ∙ x_is)

large_no_char : (n : ℕ) → 1114112 ≤ n → is_char n ≡ false
unfolding is_char
large_no_char n large = grind (arith, nat_tests)

same_number : (n m : ℕ) → min n 1114112 ≡ m → is_char m ≡ true → n ≡ m
unfolding is_char
same_number n m is char = grind (arith, nat_tests)

no_number : (n m : ℕ) → min n 1114112 ≡ m → is_char m ≡ false → is_char n ≡ false
unfolding is_char
no_number n m is char = grind (arith, nat_tests)

pub number_is : (t : Bool) (n m : ℕ) → t ≡ true → min n 1114112 ≡ m → when (is_char m) m ≡ when (t && is_char n) n
number_is t n m all is = rw all (by (is_char m) refl)
  where
    by : (u : Bool) → is_char m ≡ u → when u m ≡ when (is_char n) n
    by true char = rw (same_number n m is char, char) refl
    by false char = rw (no_number n m is char) refl
