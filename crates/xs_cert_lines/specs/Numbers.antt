-- How numbers are read from the front of a list of bytes.
use Rattle.std.specs.Prelude.{ℕ, ◌+◌, ◌-◌, ◌*◌, ◌^◌, ◌==◌, ◌&&◌, Bool, false, List, [], ◌∷◌, nat_le, nat_lt, if◌then◌else◌, Option, None, Some}
use Rattle.xs_class.specs.Words.{is_digit}

-- the value of a digit
abbrev pub digit_at : ℕ → Option ℕ
digit_at c = if is_digit c then Some (c - 48) else None

-- the number that the digits at the front spell after those of n, where it is below 2^32 and none
-- comes after a zero that is the first, and what follows the digits
abbrev pub number_after : ℕ → List ℕ → Option (ℕ × List ℕ)
number_after n [] = Some (n, [])
number_after n (c ∷ cs) =
    if is_digit c then (if n == 0 then None else (if nat_lt (n * 10 + (c - 48)) (2 ^ 32) then number_after (n * 10 + (c - 48)) cs else None))
    else Some (n, c ∷ cs)

-- the same from the beginning: there is a digit
abbrev pub number_at : List ℕ → Option (ℕ × List ℕ)
number_at [] = None
number_at (c ∷ cs) = if is_digit c then number_after (c - 48) cs else None

-- what is read, where the number is at least the first and below the end
abbrev pub kept_within : ℕ → ℕ → Option (ℕ × List ℕ) → Option (ℕ × List ℕ)
kept_within first end None = None
kept_within first end (Some r) = if nat_le first r.0 && nat_lt r.0 end then Some r else None

abbrev pub within_at : ℕ → ℕ → List ℕ → Option (ℕ × List ℕ)
within_at first end bytes = kept_within first end (number_at bytes)

-- a space and such a number
abbrev pub partner_at : ℕ → ℕ → List ℕ → Option (ℕ × List ℕ)
partner_at first end [] = None
partner_at first end (c ∷ cs) = if c == 32 then within_at first end cs else None

-- whether the bytes begin with a digit
abbrev pub begins_digit : List ℕ → Bool
begins_digit [] = false
begins_digit (c ∷ cs) = is_digit c
