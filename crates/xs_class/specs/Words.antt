-- Tests of words and the values of digits.
use Rattle.std.specs.Prelude.{ℕ, ◌-◌, ◌==◌, ◌&&◌, Bool, true, false, List, [], ◌∷◌, nat_le, if◌then◌else◌}

abbrev pub is_empty : List ℕ → Bool
is_empty [] = true
is_empty (c ∷ cs) = false

-- the value of a digit, also of a hexadecimal one of either case
abbrev pub hex_value : ℕ → ℕ
hex_value c = if nat_le c 57 then c - 48 else (if nat_le c 70 then c - 55 else c - 87)

abbrev pub is_digit : ℕ → Bool
is_digit c = nat_le 48 c && nat_le c 57

-- the words are the same
abbrev pub same : List ℕ → List ℕ → Bool
same [] [] = true
same (x ∷ xs) (y ∷ ys) = x == y && same xs ys
same xs ys = false
