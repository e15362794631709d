-- A set of numbers below a bound, one bit each in words of 64 bits.
use Rattle.std.specs.Prelude.{◌≡◌, ℕ, ◌*◌, ◌/◌, ◌%◌, ◌≤◌, Bool, nat_eq, List, map, length, get_or}
use Rattle.std.specs.List.{range_with_len}
use Rattle.std.specs.Int.{bit_at}

-- whether bit c % 64 of word c / 64 is set
abbrev pub bit_of : List ℕ → ℕ → Bool
bit_of words c = nat_eq (bit_at (get_or words (c / 64) 0) (c % 64)) 1

-- for each number below the bound whether it is in the set
abbrev pub bits_of : ℕ → List ℕ → List Bool
bits_of bound words = map (bit_of words) (range_with_len 0 bound)

-- there is a word for each number below the bound, and none is used from some word on
pub record HoldsBits (bound used : ℕ) (words : List ℕ) : Type 0 where
  pub room : bound ≤ 64 * length words
  pub within : used ≤ length words
  pub unused : (k : ℕ) → used ≤ k → get_or words k 0 ≡ 0
