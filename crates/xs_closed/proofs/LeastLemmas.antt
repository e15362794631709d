-- The least sets are closed, and within each closed set.
use Rattle.std.proofs.Common.{◌≡◌, ℕ, Bool, true}
use Rattle.xs_auto.specs.Nets.{Graph, final_at}
use Rattle.xs_meet.specs.Closed.{Marked, Leads, IsClosed, IsApart, IsClear}
use Rattle.xs_closed.specs.Least.{Reach, begun, led, AreStarts, Meeting, Fronts, Pauses, Middles, Rests}
use Rattle.xs_closed.specs.Laws.{IsWithin, LeastIsApart, AreWithin, LeastIsClear}

-- what is reached is in each set that has the seeds and is closed
pub reach_within : {S : ℕ → ℕ → Type 0} {L : ℕ → ℕ → ℕ → ℕ → Type 0} (Z : ℕ → ℕ → Type 0) → IsWithin S Z → IsClosed L Z → {a b : ℕ} → Reach S L a b → Z a b
reach_within Z seeds closed (begun s) = seeds _ _ s
reach_within Z seeds closed (led r l) = closed _ _ _ _ (reach_within Z seeds closed r) l

-- it is closed
pub reach_closed : (S : ℕ → ℕ → Type 0) (L : ℕ → ℕ → ℕ → ℕ → Type 0) → IsClosed L (Reach S L)
reach_closed S L a b c d r l = led r l

is_apart : (R : ℕ → ℕ → Type 0) (m n : Graph) → ((a b : ℕ) → Meeting R m n a b → final_at m a ≡ true → final_at n b ≡ true → ⊥) → IsApart R m n (Meeting R m n)
is_apart R m n none = record {
  starts = λ a b e f. begun (record { first = e; second = f });
  closed = reach_closed (AreStarts m n) (Leads R m n);
  none = none;
}

within_apart : (R : ℕ → ℕ → Type 0) (m n : Graph) (Z : ℕ → ℕ → Type 0) → IsApart R m n Z → IsWithin (Meeting R m n) Z
within_apart R m n Z z a b = reach_within Z (λ a b s. z.starts a b s.first s.second) z.closed

pub least_is_apart : LeastIsApart
least_is_apart related m n = (is_apart (Marked related) m n, λ z. within_apart (Marked related) m n (Marked z))

is_clear : (R : ℕ → ℕ → Type 0) (front rest : Graph) → ((a b : ℕ) → Rests R front rest a b → final_at rest a ≡ true → final_at rest b ≡ true → ⊥) → IsClear R front rest (Fronts R front) (Pauses R front rest) (Middles R front rest) (Rests R front rest)
is_clear R front rest none = record {
  starts = λ a b e f. begun (record { first = e; second = f });
  closed1 = λ a b c d r l. led r l;
  to0 = λ a b r z e begin. begun (record { state = a; within = z; final = e; starts = begin });
  drifts0 = λ a b c d r l. led r l;
  to2 = λ a b c d z s. begun (record { front_state = a; rest_state = b; within = z; stride = s });
  closed2 = λ a b c d r l. led r l;
  to3 = λ b r s z e begin. begun (record { state = b; within = z; final = e; starts = begin });
  closed3 = λ a b c d r l. led r l;
  none = none;
}

within_clear : (R : ℕ → ℕ → Type 0) (front rest : Graph) (z1 z0 z2 z3 : ℕ → ℕ → Bool) → IsClear R front rest (Marked z1) (Marked z0) (Marked z2) (Marked z3) → AreWithin R front rest z1 z0 z2 z3
within_clear R front rest z1 z0 z2 z3 z =
    let fronts : IsWithin (Fronts R front) (Marked z1) = λ a b. reach_within (Marked z1) (λ a b s. z.starts a b s.first s.second) z.closed1 in
    let pauses : IsWithin (Pauses R front rest) (Marked z0) = λ a b. reach_within (Marked z0) (λ b r s. z.to0 s.state b r (fronts s.state b s.within) s.final s.starts) z.drifts0 in
    let middles : IsWithin (Middles R front rest) (Marked z2) = λ a b. reach_within (Marked z2) (λ c d s. z.to2 s.front_state s.rest_state c d (pauses s.front_state s.rest_state s.within) s.stride) z.closed2 in
    let rests : IsWithin (Rests R front rest) (Marked z3) = λ a b. reach_within (Marked z3) (λ s r p. z.to3 p.state r s (middles p.state r p.within) p.final p.starts) z.closed3 in
    record { fronts = fronts; pauses = pauses; middles = middles; rests = rests }

pub least_is_clear : LeastIsClear
least_is_clear related front rest = (is_clear (Marked related) front rest, within_clear (Marked related) front rest)
