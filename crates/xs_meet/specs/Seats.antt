-- Pairs of the start of a net and another state.
use Rattle.std.specs.Prelude.{ℕ}
use Rattle.xs_meet.specs.declared.seat.Seat.{Seat}
use Rattle.xs_meet.specs.declared.seat.Seat.TheVariants.{First, Second}

-- of two numbers, the one for the start
abbrev pub start_of : Seat → ℕ → ℕ → ℕ
start_of First a b = a
start_of Second a b = b

-- and the one for the other state
abbrev pub other_of : Seat → ℕ → ℕ → ℕ
other_of First a b = b
other_of Second a b = a
