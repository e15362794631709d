-- A number as it is written is a numeral of it, and is what a number of the machine is printed as.
use Rattle.std.proofs.Common.{◌≡◌, ◌≢◌, ℕ, zero, suc, ◌+◌, ◌^◌, ◌<◌, ◌≤◌, ◌/◌, ◌%◌, Bool, true, false, nat_lt, if◌then◌else◌, List, [], ◌∷◌, ◌++◌, length, length-append, get_or, decimal, refl, sym, ap, ◌∙◌, subst, arith}
use Rattle.std.specs.Char.{digit_value}
use Rattle.std.specs.Str.Parse.{AllDigits, digits_value}
use Rattle.std.proofs.lemmas.Bool.Decides.{nat_tests}
use Rattle.std.proofs.lemmas.Str.{digit_value_digit}
use Rattle.std.proofs.lemmas.Int.Digits.{digits_push, digits_value_push}
use Rattle.std.proofs.lemmas.Str.Parse.{numerals_by_value, tells_digits}
use Rattle.std.proofs.lemmas.Fmt.{decimal-digits_value}
use Rattle.xs_class.proofs.Truth.{lt_is}
use Rattle.xs_outline.specs.Lines.{IsNumeral, digits_within, number_text}

digit_is : (d : ℕ) → d < 10 → digit_value (48 + d) ≡ d
digit_is d low = let same = digit_value_digit (48 + d) (omega arith, omega arith) in omega (arith, same)

-- a numeral whose first digit is no zero, unless the number is
record IsWritten (ds : List ℕ) (n : ℕ) : Type 0 where
  numeral : IsNumeral ds n
  some : 0 < length ds
  first : 0 < n → get_or ds 0 0 ≢ 48

one_digit : (n : ℕ) → n < 10 → IsWritten ((48 + n) ∷ []) n
one_digit n low =
    let is = digit_is n low in
    record {
      numeral = record { some = λ e. cc; each = (omega (arith, is, low), tt); value = omega (arith, is); leading = λ e. refl };
      some = omega arith;
      first = λ more e. omega (arith, more, e);
    }

same_first : (ds more : List ℕ) → 0 < length ds → get_or (ds ++ more) 0 0 ≡ get_or ds 0 0
same_first [] more some = absurd (omega (arith, some))
same_first (d ∷ ds) more some = refl

longer_none : (ds : List ℕ) (d : ℕ) → ds ++ d ∷ [] ≢ []
longer_none ds d e = omega (arith, ap length e, length-append ds (d ∷ []))

one_more : (ds : List ℕ) (n : ℕ) → 10 ≤ n → IsWritten ds (n / 10) → IsWritten (ds ++ (48 + n % 10) ∷ []) n
one_more ds n high w =
    let low : n % 10 < 10 = omega arith in
    let is = digit_is (n % 10) low in
    let own : digits_value 10 ds ≡ n / 10 = w.numeral.value in
    let front = same_first ds ((48 + n % 10) ∷ []) w.some in
    let no_zero : get_or (ds ++ (48 + n % 10) ∷ []) 0 0 ≢ 48 = λ e. w.first (omega arith) (sym front ∙ e) in
    record {
      numeral = record {
        some = longer_none ds (48 + n % 10);
        each = digits_push 10 ds (48 + n % 10) w.numeral.each (omega (arith, is, low));
        value = digits_value_push 10 ds (48 + n % 10) ∙ omega (arith, own, is);
        leading = λ e. absurd (no_zero e);
      };
      some = omega (arith, length-append ds ((48 + n % 10) ∷ []));
      first = λ more e. no_zero e;
    }

written : (k n : ℕ) → n < k → IsWritten (digits_within k n) n
written zero n lt = absurd (omega (arith, lt))
written (suc k) n lt = by (λ (m : ℕ) (below : m < k). written k m below) (nat_lt n 10) refl
  where
    by : ((m : ℕ) → m < k → IsWritten (digits_within k m) m) → (b : Bool) → nat_lt n 10 ≡ b → IsWritten (if b then (48 + n) ∷ [] else digits_within k (n / 10) ++ (48 + n % 10) ∷ []) n
    by again true e = one_digit n (lt_is n 10 e)
    by again false e = let high : 10 ≤ n = grind (arith, nat_tests) in one_more (digits_within k (n / 10)) n high (again (n / 10) (omega (arith, lt, high)))

pub numeral_is : (n : ℕ) → IsNumeral (number_text n) n
unfolding number_text
numeral_is n = (written (suc n) n (omega arith)).numeral

pub decimal_is : (n : ℕ) → n < 2 ^ 64 → decimal n ≡ number_text n
decimal_is n low =
    let is = numeral_is n in
    let below : digits_value 10 (number_text n) < 2 ^ 64 = subst (λ (z : ℕ). z < 2 ^ 64) (sym is.value) low in
    ap decimal (sym is.value) ∙ decimal-digits_value (numerals_by_value (AllDigits 10) tells_digits) (number_text n) is.each (longer (number_text n) is.some) is.leading below
  where
    longer : (ds : List ℕ) → ds ≢ [] → 0 < length ds
    longer [] some = absurd (some refl)
    longer (d ∷ ds) some = omega arith
