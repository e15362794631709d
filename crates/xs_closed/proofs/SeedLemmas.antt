-- Pairs of one set that lead into another.
use Rattle.std.proofs.Common.{◌≡◌, ℕ, ◌<◌, true, false, List, length, get_or, refl, sym, ◌∙◌}
use Rattle.std.proofs.lemmas.Bool.{true≢false}
use Rattle.std.specs.List.{All}
use Rattle.std.specs.declared.option.Option.TheVariants.{Some, None}
use Rattle.xs_class.proofs.Lists.{some_same}
use Rattle.xs_auto.specs.Nets.{Graph, states, final_at}
use Rattle.xs_meet.specs.declared.seat.Seat.{Seat}
use Rattle.xs_meet.specs.Closed.{Strides}
use Rattle.xs_meet.specs.Seats.{start_of, other_of}
use Rattle.xs_meet.proofs.SeatLemmas.{seat_same, seat_within}
use Rattle.xs_closed.specs.declared.pair.Pair.{Pair}
use Rattle.xs_closed.specs.Rows.{Grid}
use Rattle.xs_closed.specs.Least.{AreStarts, IsPast, IsStride}
use Rattle.xs_closed.specs.Search.{pair, HasPair, IsInside, KeepsSize, Adds, IsPair, OneOf, Turns}
use Rattle.xs_closed.proofs.AddLemmas.{adds_as, adds_known}

-- where both nets have a start, and where one has none
pub starts_there : (m n : Graph) (a b : ℕ) {y z : Grid} {ps qs : List Pair} → m.start ≡ Some a → n.start ≡ Some b → Adds (IsPair a b) y ps z qs → Adds (AreStarts m n) y ps z qs
starts_there m n a b e f g = adds_as (IsPair a b) (AreStarts m n) to back g
  where
    to : (c d : ℕ) → IsPair a b c d → AreStarts m n c d
    to c d p = record { first = rw p.first e; second = rw p.second f }

    back : (c d : ℕ) → AreStarts m n c d → IsPair a b c d
    back c d s = record { first = some_same _ _ _ s.first e; second = some_same _ _ _ s.second f }

no_start : (a : ℕ) (m : Graph) → m.start ≡ None → m.start ≡ Some a → ⊥
no_start a m e f = cc

pub starts_first : (m n : Graph) (z : Grid) (ps : List Pair) → m.start ≡ None → Adds (AreStarts m n) z ps z ps
starts_first m n z ps none = adds_known (AreStarts m n) z ps (λ a b s. absurd (no_start a m none s.first))

pub starts_second : (m n : Graph) (z : Grid) (ps : List Pair) → n.start ≡ None → Adds (AreStarts m n) z ps z ps
starts_second m n z ps none = adds_known (AreStarts m n) z ps (λ a b s. absurd (no_start b n none s.second))

-- the pair that an end gives is inside the table
pub end_within : (seat : Seat) (front : Graph) (ends : List Pair) (k a b start : ℕ) {y z : Grid} → KeepsSize y z → All (IsInside (states front) (other_of seat (length y.rows) y.wide)) ends → start < start_of seat (length y.rows) y.wide → k < length ends → start_of seat a b ≡ start → other_of seat a b ≡ (get_or ends k (pair 0 0)).second → (a < length z.rows) × (b < z.wide)
end_within seat front ends k a b start {y} {z} size inside low there e f =
    rw (size.high, size.wide) (seat_within seat a b (length y.rows) y.wide start _ e f low (inside k (pair 0 0) there).second)

pub turns_new : (seat : Seat) (front : Graph) (start : ℕ) (p : Pair) (a b : ℕ) {y z : Grid} {ps qs : List Pair} → start_of seat a b ≡ start → other_of seat a b ≡ p.second → final_at front p.first ≡ true → Adds (IsPair a b) y ps z qs → Adds (Turns seat front start p) y ps z qs
turns_new seat front start p a b e f final g = adds_as (IsPair a b) (Turns seat front start p) to back g
  where
    to : (c d : ℕ) → IsPair a b c d → Turns seat front start p c d
    to c d k = rw (k.first, k.second) (record { final = final; starts = e; other = f })

    back : (c d : ℕ) → Turns seat front start p c d → IsPair a b c d
    back c d t = let both = seat_same seat c d a b (t.starts ∙ sym e) (t.other ∙ sym f) in record { first = both.0; second = both.1 }

pub turns_none : (seat : Seat) (front : Graph) (start : ℕ) (p : Pair) (z : Grid) (ps : List Pair) → final_at front p.first ≡ false → Adds (Turns seat front start p) z ps z ps
turns_none seat front start p z ps shut = adds_known (Turns seat front start p) z ps (λ c d t. absurd (true≢false (sym t.final ∙ shut)))

-- over all pairs of a list
pub turns_all : (seat : Seat) (front rest : Graph) (start : ℕ) (ends : List Pair) {y z : Grid} {ps qs : List Pair} → rest.start ≡ Some start → Adds (OneOf ends (Turns seat front start)) y ps z qs → Adds (IsPast seat front rest (HasPair ends)) y ps z qs
turns_all seat front rest start ends begin g = adds_as (OneOf ends (Turns seat front start)) (IsPast seat front rest (HasPair ends)) to back g
  where
    to : (c d : ℕ) → OneOf ends (Turns seat front start) c d → IsPast seat front rest (HasPair ends) c d
    to c d t = record { state = t.item.first; within = rw t.leads.other t.has; final = t.leads.final; starts = rw t.leads.starts begin }

    back : (c d : ℕ) → IsPast seat front rest (HasPair ends) c d → OneOf ends (Turns seat front start) c d
    back c d p = record { item = pair p.state (other_of seat c d); has = p.within; leads = record { final = p.final; starts = some_same _ _ _ p.starts begin; other = refl } }

pub turns_nowhere : (seat : Seat) (front rest : Graph) (ends : List Pair) (z : Grid) (ps : List Pair) → rest.start ≡ None → Adds (IsPast seat front rest (HasPair ends)) z ps z ps
turns_nowhere seat front rest ends z ps none = adds_known (IsPast seat front rest (HasPair ends)) z ps (λ c d p. absurd (no_start (start_of seat c d) rest none p.starts))

-- where the pair leads by edges or calls
abbrev pub Goes : (ℕ → ℕ → Type 0) → Graph → Graph → Pair → ℕ → ℕ → Type 0
Goes R front rest p = Strides R front rest p.first p.second

pub strides_all : (R : ℕ → ℕ → Type 0) (front rest : Graph) (pauses : List Pair) {y z : Grid} {ps qs : List Pair} → Adds (OneOf pauses (Goes R front rest)) y ps z qs → Adds (IsStride R front rest (HasPair pauses)) y ps z qs
strides_all R front rest pauses g = adds_as (OneOf pauses (Goes R front rest)) (IsStride R front rest (HasPair pauses)) to back g
  where
    to : (c d : ℕ) → OneOf pauses (Goes R front rest) c d → IsStride R front rest (HasPair pauses) c d
    to c d t = record { front_state = t.item.first; rest_state = t.item.second; within = t.has; stride = t.leads }

    back : (c d : ℕ) → IsStride R front rest (HasPair pauses) c d → OneOf pauses (Goes R front rest) c d
    back c d s = record { item = pair s.front_state s.rest_state; has = s.within; leads = s.stride }
