-- Numbers in decimal digits, without a sign and without a leading zero but for 0 itself.
use Rattle.std.specs.Prelude.{ℕ, ◌+◌, ◌-◌, ◌*◌, Bool, true, false, List, [], ◌∷◌, None, Some, ◌==◌, ◌&&◌, not, nat_le, if◌then◌else◌}
use Rattle.std.specs.declared.option.Option.{Option}
use Rattle.xs_class.specs.Words.{is_digit}

-- there is a digit, and where more follow it is no zero
abbrev pub begins_well : List ℕ → Bool
begins_well [] = false
begins_well (b ∷ []) = true
begins_well (b ∷ c ∷ bs) = not (b == 48)

-- the number that these digits spell after the digits of n; None where one is no digit
abbrev pub number_after : ℕ → List ℕ → Option ℕ
number_after n [] = Some n
number_after n (b ∷ bs) = if is_digit b then number_after (n * 10 + (b - 48)) bs else None

-- a number where it lies between these two
abbrev pub within : ℕ → ℕ → Option ℕ → Option ℕ
within least most None = None
within least most (Some n) = if nat_le least n && nat_le n most then Some n else None

-- the number that a word is, where it lies between these two
abbrev pub number_within : ℕ → ℕ → List ℕ → Option ℕ
number_within least most word = if begins_well word then within least most (number_after 0 word) else None
