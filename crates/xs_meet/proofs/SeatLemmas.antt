-- Pairs of a start and another state.
use Rattle.std.proofs.Common.{◌≡◌, ℕ, ◌<◌}
use Rattle.xs_meet.specs.declared.seat.Seat.{Seat}
use Rattle.xs_meet.specs.declared.seat.Seat.TheVariants.{First, Second}
use Rattle.xs_meet.specs.Seats.{start_of, other_of}

-- pairs with the same start and the same other state are the same
pub seat_same : (seat : Seat) (a b c d : ℕ) → start_of seat a b ≡ start_of seat c d → other_of seat a b ≡ other_of seat c d → (a ≡ c) × (b ≡ d)
seat_same First a b c d e f = (e, f)
seat_same Second a b c d e f = (f, e)

-- the start and the other state are below the bounds for them
pub seat_within : (seat : Seat) (a b high wide start other : ℕ) → start_of seat a b ≡ start → other_of seat a b ≡ other → start < start_of seat high wide → other < other_of seat high wide → (a < high) × (b < wide)
seat_within First a b high wide start other e f l m = (rw e l, rw f m)
seat_within Second a b high wide start other e f l m = (rw f m, rw e l)
