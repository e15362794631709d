-- What may stand between the two ends of a quoted string and of a pattern.
use Rattle.std.specs.Prelude.{ℕ, ◌+◌, ◌*◌, Bool, true, List, [], ◌∷◌, ◌++◌, length, ◌==◌, ◌&&◌, ◌||◌, not, nat_le, nat_lt, if◌then◌else◌}
use Rattle.std.specs.List.{list_all}
use Rattle.std.specs.Char.{digit_value}

-- a character as it is, a backslash and a letter or sign, or a number in hexadecimal digits
pub data QuotedUnit : Type 0 where
  plain : ℕ → QuotedUnit
  escaped : ℕ → QuotedUnit
  coded : List ℕ → QuotedUnit

-- the number of hexadecimal digits that follow the digits of n
abbrev pub number : ℕ → List ℕ → ℕ
number n [] = n
number n (d ∷ ds) = number (n * 16 + digit_value d) ds

-- a hexadecimal digit of either case
abbrev pub is_hex : ℕ → Bool
is_hex c = nat_lt (digit_value c) 16

-- at most 10FFFF and no surrogate
abbrev pub is_scalar : ℕ → Bool
is_scalar n = if nat_lt n 0xD800 then true else nat_le 0xE000 n && nat_lt n 0x110000

-- the signs that may follow a backslash: " \ n t r
abbrev pub is_escape : ℕ → Bool
is_escape c = c == 34 || (c == 92 || (c == 110 || (c == 116 || c == 114)))

-- what a backslash and such a sign stand for: \n is LF, \t is tab, \r is CR
abbrev pub escape_char : ℕ → ℕ
escape_char c = if c == 110 then 10 else (if c == 116 then 9 else (if c == 114 then 13 else c))

abbrev pub is_quoted_unit : QuotedUnit → Bool
is_quoted_unit (plain c) = not (c == 34 || (c == 92 || c == 10))
is_quoted_unit (escaped c) = is_escape c
is_quoted_unit (coded ds) = list_all is_hex ds && (nat_le 1 (length ds) && (nat_le (length ds) 6 && is_scalar (number 0 ds)))

-- the spelling of units, and what stands after them: " is 34, \ is 92, u{ is 117 123, } is 125
abbrev pub spelt_quoted_unit : QuotedUnit → List ℕ → List ℕ
spelt_quoted_unit (plain c) rest = c ∷ rest
spelt_quoted_unit (escaped c) rest = 92 ∷ c ∷ rest
spelt_quoted_unit (coded ds) rest = 92 ∷ 117 ∷ 123 ∷ (ds ++ 125 ∷ rest)

abbrev pub spelt_quoted : List QuotedUnit → List ℕ → List ℕ
spelt_quoted [] rest = rest
spelt_quoted (u ∷ us) rest = spelt_quoted_unit u (spelt_quoted us rest)

-- the character that a unit stands for
abbrev pub meaning : QuotedUnit → ℕ
meaning (plain c) = c
meaning (escaped c) = escape_char c
meaning (coded ds) = number 0 ds

-- a character as it is, or a backslash and any character but LF
pub data PatternUnit : Type 0 where
  bare : ℕ → PatternUnit
  guarded : ℕ → PatternUnit

abbrev pub is_pattern_unit : PatternUnit → Bool
is_pattern_unit (bare c) = not (c == 47 || (c == 92 || c == 10))
is_pattern_unit (guarded c) = not (c == 10)

abbrev pub spelt_pattern_unit : PatternUnit → List ℕ → List ℕ
spelt_pattern_unit (bare c) rest = c ∷ rest
spelt_pattern_unit (guarded c) rest = 92 ∷ c ∷ rest

abbrev pub spelt_pattern : List PatternUnit → List ℕ → List ℕ
spelt_pattern [] rest = rest
spelt_pattern (u ∷ us) rest = spelt_pattern_unit u (spelt_pattern us rest)
