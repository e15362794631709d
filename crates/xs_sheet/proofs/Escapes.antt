-- The units of a quoted string as it is written: what they stand for, and which characters they have.
use Rattle.std.proofs.Common.{◌≡◌, ℕ, ◌+◌, ◌<◌, ◌≤◌, ◌/◌, ◌%◌, Bool, true, false, nat_lt, nat_le, ◌==◌, if◌then◌else◌, List, [], ◌∷◌, ◌++◌, map, length, refl, sym, ap, ◌∙◌, subst, arith, eqb-true}
use Rattle.std.specs.List.{list_all}
use Rattle.std.specs.Char.{digit_char}
use Rattle.std.specs.Str.{all_scalars}
use Rattle.std.proofs.lemmas.Bool.Decides.{nat_tests}
use Rattle.std.proofs.lemmas.Str.{digit_value-digit_char}
use lib.Utf8.{scalar, low_scalar}
use Rattle.xs_lex.specs.Reading.{line_ends}
use Rattle.xs_lex.specs.Units.{QuotedUnit, plain, coded, number, is_hex, is_scalar, is_quoted_unit, spelt_quoted_unit, spelt_quoted, meaning}
use Rattle.xs_lex.specs.Spelling.{IsQuoted}
use Rattle.xs_sheet.specs.Layout.{hex_digits, escape_sign, is_control, unit_of, quoted}
use Rattle.xs_sheet.proofs.Strings.{control_low}
use Rattle.xs_class.proofs.Truth.{and_true, both_true, lt_true}
use Rattle.xs_lex.proofs.Reached.{line_ends-append}

-- the digits of a number
record IsHex (n : ℕ) (ds : List ℕ) : Type 0 where
  each : list_all is_hex ds ≡ true
  some : nat_le 1 (length ds) ≡ true
  few : nat_le (length ds) 6 ≡ true
  value : number 0 ds ≡ n
  low : all_scalars ds ≡ true
  one_line : line_ends ds ≡ 0

digit_is_hex : (d : ℕ) → d < 16 → is_hex (digit_char d) ≡ true
digit_is_hex d low = rw (digit_value-digit_char d (omega arith)) (lt_true d 16 low)

digit_bounds : (d : ℕ) → d < 16 → (48 ≤ digit_char d) × (digit_char d < 128)
digit_bounds d low = by (nat_lt d 10) refl
  where
    by : (t : Bool) → nat_lt d 10 ≡ t → (48 ≤ (if t then 48 + d else 87 + d)) × ((if t then 48 + d else 87 + d) < 128)
    by true e = (omega arith, omega arith)
    by false e = (omega arith, omega arith)

digit_scalar : (d : ℕ) → d < 16 → scalar (digit_char d) ≡ true
digit_scalar d low = low_scalar (digit_char d) (let h = digit_bounds d low in omega (arith, h.1))

digit_no_end : (d : ℕ) → d < 16 → (digit_char d == 10) ≡ false
digit_no_end d low = by (digit_char d == 10) refl
  where
    by : (t : Bool) → (digit_char d == 10) ≡ t → t ≡ false
    by true e = let same = eqb-true (digit_char d) 10 e in let h = digit_bounds d low in absurd (omega (arith, same, h.0))
    by false e = refl

hex_is : (n : ℕ) → n < 256 → IsHex n (hex_digits n)
unfolding hex_digits
hex_is n small = by (nat_lt n 16) refl
  where
    by : (t : Bool) → nat_lt n 16 ≡ t → IsHex n (if t then digit_char n ∷ [] else digit_char (n / 16) ∷ digit_char (n % 16) ∷ [])
    by true e =
        let low : n < 16 = grind (arith, nat_tests) in
        let value = digit_value-digit_char n (omega arith) in
        record { each = rw (digit_is_hex n low) refl; some = refl; few = refl; value = omega (arith, value); low = rw (digit_scalar n low) refl; one_line = rw (digit_no_end n low) refl }
    by false e =
        let high : n / 16 < 16 = omega arith in
        let low : n % 16 < 16 = omega arith in
        let first = digit_value-digit_char (n / 16) (omega arith) in
        let second = digit_value-digit_char (n % 16) (omega arith) in
        record { each = rw (digit_is_hex (n / 16) high, digit_is_hex (n % 16) low) refl; some = refl; few = refl; value = omega (arith, first, second); low = rw (digit_scalar (n / 16) high, digit_scalar (n % 16) low) refl; one_line = rw (digit_no_end (n / 16) high, digit_no_end (n % 16) low) refl }

-- a unit that stands for a character, in one line
record StandsFor (c : ℕ) (u : QuotedUnit) : Type 0 where
  good : is_quoted_unit u ≡ true
  means : meaning u ≡ c
  one_line : (rest : List ℕ) → line_ends (spelt_quoted_unit u rest) ≡ line_ends rest
  scalars : scalar c ≡ true → (rest : List ℕ) → all_scalars rest ≡ true → all_scalars (spelt_quoted_unit u rest) ≡ true

pub scalars-append : (u v : List ℕ) → all_scalars u ≡ true → all_scalars v ≡ true → all_scalars (u ++ v) ≡ true
scalars-append [] v a b = b
scalars-append (c ∷ cs) v a b = let p = and_true (scalar c) (all_scalars cs) a in both_true (scalar c) (all_scalars (cs ++ v)) p.0 (scalars-append cs v p.1 b)

coded_stands : (c : ℕ) → c < 128 → StandsFor c (coded (hex_digits c))
coded_stands c low =
    let h = hex_is c (omega arith) in
    let fits : is_scalar c ≡ true = rw (lt_true c 0xD800 (omega arith)) refl in
    let within : is_scalar (number 0 (hex_digits c)) ≡ true = ap is_scalar h.value ∙ fits in
    record {
      good = both_true _ _ h.each (both_true _ _ h.some (both_true _ _ h.few within));
      means = h.value;
      one_line = λ rest. line_ends-append (hex_digits c) (125 ∷ rest) ∙ ap (λ (n : ℕ). n + line_ends rest) h.one_line ∙ omega arith;
      scalars = λ is rest more. scalars-append (hex_digits c) (125 ∷ rest) h.low more;
    }

plain_stands : (c : ℕ) → (c == 34) ≡ false → (c == 92) ≡ false → (c == 10) ≡ false → StandsFor c (plain c)
plain_stands c a b d = record {
  good = rw (a, b, d) refl;
  means = refl;
  one_line = λ rest. rw d refl;
  scalars = λ is rest more. both_true (scalar c) (all_scalars rest) is more;
}

escaped_stands : (StandsFor 34 (unit_of 34)) × (StandsFor 92 (unit_of 92)) × (StandsFor 10 (unit_of 10)) × (StandsFor 9 (unit_of 9)) × (StandsFor 13 (unit_of 13))
unfolding escape_sign
escaped_stands = (
  record { good = refl; means = refl; one_line = λ rest. refl; scalars = λ is rest more. more },
  record { good = refl; means = refl; one_line = λ rest. refl; scalars = λ is rest more. more },
  record { good = refl; means = refl; one_line = λ rest. refl; scalars = λ is rest more. more },
  record { good = refl; means = refl; one_line = λ rest. refl; scalars = λ is rest more. more },
  record { good = refl; means = refl; one_line = λ rest. refl; scalars = λ is rest more. more },
)

unit_stands : (c : ℕ) → StandsFor c (unit_of c)
unfolding escape_sign
unit_stands c = by (c == 34) (c == 92) (c == 10) (c == 9) (c == 13) refl refl refl refl refl
  where
    here : (d : ℕ) → (c == d) ≡ true → StandsFor d (unit_of d) → StandsFor c (unit_of c)
    here d e s = subst (λ (z : ℕ). StandsFor z (unit_of z)) (sym (eqb-true c d e)) s

    number_or_plain : (t : Bool) → is_control c ≡ t → (c == 34) ≡ false → (c == 92) ≡ false → (c == 10) ≡ false → StandsFor c (if t then coded (hex_digits c) else plain c)
    number_or_plain true e x y z = coded_stands c (control_low c e)
    number_or_plain false e x y z = plain_stands c x y z

    by : (t1 t2 t3 t4 t5 : Bool) → (c == 34) ≡ t1 → (c == 92) ≡ t2 → (c == 10) ≡ t3 → (c == 9) ≡ t4 → (c == 13) ≡ t5 → StandsFor c (unit_of c)
    by true t2 t3 t4 t5 e1 e2 e3 e4 e5 = here 34 e1 escaped_stands.0
    by false true t3 t4 t5 e1 e2 e3 e4 e5 = here 92 e2 escaped_stands.1
    by false false true t4 t5 e1 e2 e3 e4 e5 = here 10 e3 escaped_stands.2
    by false false false true t5 e1 e2 e3 e4 e5 = here 9 e4 escaped_stands.3
    by false false false false true e1 e2 e3 e4 e5 = here 13 e5 escaped_stands.4
    by false false false false false e1 e2 e3 e4 e5 = rw (e1, e2, e3, e4, e5) (number_or_plain (is_control c) refl e1 e2 e3)

each_good : (text : List ℕ) → list_all is_quoted_unit (map unit_of text) ≡ true
each_good [] = refl
each_good (c ∷ cs) = both_true (is_quoted_unit (unit_of c)) (list_all is_quoted_unit (map unit_of cs)) (unit_stands c).good (each_good cs)

each_means : (text : List ℕ) → text ≡ map meaning (map unit_of text)
each_means [] = refl
each_means (c ∷ cs) = ap (λ (n : ℕ). n ∷ cs) (sym (unit_stands c).means) ∙ ap (λ (z : List ℕ). meaning (unit_of c) ∷ z) (each_means cs)

pub quoted_is : (text : List ℕ) → IsQuoted (quoted text) text
quoted_is text = record { units = map unit_of text; is = refl; each = each_good text; means = each_means text }

units_one_line : (text rest : List ℕ) → line_ends (spelt_quoted (map unit_of text) rest) ≡ line_ends rest
units_one_line [] rest = refl
units_one_line (c ∷ cs) rest = (unit_stands c).one_line (spelt_quoted (map unit_of cs) rest) ∙ units_one_line cs rest

pub quoted_one_line : (text : List ℕ) → line_ends (quoted text) ≡ 0
quoted_one_line text = units_one_line text (34 ∷ [])

units_scalars : (text rest : List ℕ) → all_scalars text ≡ true → all_scalars rest ≡ true → all_scalars (spelt_quoted (map unit_of text) rest) ≡ true
units_scalars [] rest are more = more
units_scalars (c ∷ cs) rest are more =
    let p = and_true (scalar c) (all_scalars cs) are in
    (unit_stands c).scalars p.0 (spelt_quoted (map unit_of cs) rest) (units_scalars cs rest p.1 more)

pub quoted_scalars : (text : List ℕ) → all_scalars text ≡ true → all_scalars (quoted text) ≡ true
quoted_scalars text are = units_scalars text (34 ∷ []) are refl
