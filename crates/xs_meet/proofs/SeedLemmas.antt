-- Steps of one layer that seed another.
use Rattle.std.proofs.Common.{◌≡◌, ℕ, ◌+◌, ◌<◌, ◌⊎◌, true, false, List, length, get_or, refl, sym, ap, ◌∙◌, inl, inr, arith}
use Rattle.std.proofs.lemmas.Bool.{cases_eq, true≢false}
use Rattle.std.proofs.lemmas.Option.{slice_get_within, slice_get-get_or}
use Rattle.xs_class.proofs.Lists.{some_same}
use Rattle.xs_meet.specs.declared.reached_pair.ReachedPair.{ReachedPair}
use Rattle.xs_meet.specs.declared.layer.Layer.{Layer}
use Rattle.xs_meet.specs.declared.seat.Seat.{Seat}
use Rattle.xs_auto.specs.Nets.{Graph, states, final_at}
use Rattle.xs_meet.specs.Searches.{step, IsAt, InStates, KeepsArea, StridesFrom, Seeds, Departs, Extends}
use Rattle.xs_meet.specs.Seats.{start_of, other_of}
use Rattle.xs_meet.proofs.GainLemmas.{extends_then, extends_as, extends_nothing}
use Rattle.xs_meet.proofs.SeatLemmas.{seat_same, seat_within}
use Rattle.xs_meet.proofs.SpreadLemmas.{same_step}

-- the steps that come from places below k
pub record Below (k : ℕ) (R : ReachedPair → Type 0) (s : ReachedPair) : Type 0 where
  pub from : s.from < k
  pub is : R s

-- those that come from place k
pub record Here (k : ℕ) (R : ReachedPair → Type 0) (s : ReachedPair) : Type 0 where
  pub from : s.from ≡ k
  pub is : R s

pub below_none : (R : ReachedPair → Type 0) (l : Layer) → Extends (Below 0 R) l l
below_none R l = extends_nothing (Below 0 R) l (λ s b. absurd (omega (arith, b.from)))

pub below_more : (R : ReachedPair → Type 0) (k : ℕ) {l m n : Layer} → Extends (Below k R) l m → Extends (Here k R) m n → Extends (Below (k + 1) R) l n
below_more R k g h = extends_as (λ s. Below k R s ⊎ Here k R s) (Below (k + 1) R) to back (extends_then (Below k R) (Here k R) g h)
  where
    to : (s : ReachedPair) → Below k R s ⊎ Here k R s → Below (k + 1) R s
    to s (inl b) = record { from = omega (arith, b.from); is = b.is }
    to s (inr h) = record { from = omega (arith, h.from); is = h.is }

    back : (s : ReachedPair) → Below (k + 1) R s → Below k R s ⊎ Here k R s
    back s b = elim (cases_eq s.from k) [
      | inl e ↦ inr (record { from = e; is = b.is })
      | inr ne ↦ inl (record { from = omega (arith, b.from); is = b.is })
    ]

pub below_all : (R : ReachedPair → Type 0) (k : ℕ) {l m : Layer} → ((s : ReachedPair) → R s → s.from < k) → Extends (Below k R) l m → Extends R l m
below_all R k low g = extends_as (Below k R) R (λ s b. b.is) (λ s r. record { from = low s r; is = r }) g

-- the pair that a step seeds is one of states of the layer
pub seed_within : (seat : Seat) (net : Graph) (steps : List ReachedPair) (k a b start : ℕ) {l m : Layer} → KeepsArea l m → InStates (states net) (other_of seat l.height l.width) steps → start < start_of seat l.height l.width → k < length steps → start_of seat a b ≡ start → other_of seat a b ≡ (get_or steps k (step 0 0 0)).second → (a < m.height) × (b < m.width)
seed_within seat net steps k a b start {l} {m} area range low there e f =
    let below = range k (get_or steps k (step 0 0 0)) (slice_get-get_or steps k (step 0 0 0) there) in
    rw (area.height, area.width) (seat_within seat a b l.height l.width start _ e f low below.1)

-- a step whose first state is final seeds one pair, and another step none
pub seeds_here : (seat : Seat) (net : Graph) (start : ℕ) (steps : List ReachedPair) (k a b : ℕ) (end : ReachedPair) {l m : Layer} → start_of seat a b ≡ start → other_of seat a b ≡ end.second → IsAt steps k end → final_at net end.first ≡ true → Extends (λ s. s ≡ step a b k) l m → Extends (Here k (Seeds seat net start steps)) l m
seeds_here seat net start steps k a b end e f at final g = extends_as (λ s. s ≡ step a b k) (Here k (Seeds seat net start steps)) to back g
  where
    to : (s : ReachedPair) → s ≡ step a b k → Here k (Seeds seat net start steps) s
    to s h = rw h (record { from = refl; is = record { end = end; at = at; final = final; starts = e; other = f } })

    back : (s : ReachedPair) → Here k (Seeds seat net start steps) s → s ≡ step a b k
    back s h =
        let r = h.is in
        let same : r.end ≡ end = some_same _ _ _ (rw h.from at r.at) at in
        let both = seat_same seat s.first s.second a b (r.starts ∙ sym e) (r.other ∙ ap (λ x. x.second) same ∙ sym f) in
        same_step s a b k both.0 both.1 h.from

pub seeds_nowhere : (seat : Seat) (net : Graph) (start : ℕ) (steps : List ReachedPair) (k : ℕ) (end : ReachedPair) (l : Layer) → IsAt steps k end → final_at net end.first ≡ false → Extends (Here k (Seeds seat net start steps)) l l
seeds_nowhere seat net start steps k end l at shut = extends_nothing (Here k (Seeds seat net start steps)) l none
  where
    none : (s : ReachedPair) → Here k (Seeds seat net start steps) s → ⊥
    none s h =
        let r = h.is in
        let same : r.end ≡ end = some_same _ _ _ (rw h.from at r.at) at in
        true≢false (sym r.final ∙ ap (λ x. final_at net x.first) same ∙ shut)

pub seeds_low : (seat : Seat) (net : Graph) (start : ℕ) (steps : List ReachedPair) (s : ReachedPair) → Seeds seat net start steps s → s.from < length steps
seeds_low seat net start steps s r = slice_get_within steps s.from r.end r.at

-- the pairs to which edges or calls of both nets lead from one step
pub departs_here : (R : ℕ → ℕ → Type 0) (m n : Graph) (steps : List ReachedPair) (k : ℕ) (at : ReachedPair) {l p : Layer} → IsAt steps k at → Extends (StridesFrom R m n at.first at.second k) l p → Extends (Here k (Departs R m n steps)) l p
departs_here R m n steps k at here g = extends_as (StridesFrom R m n at.first at.second k) (Here k (Departs R m n steps)) to back g
  where
    to : (s : ReachedPair) → StridesFrom R m n at.first at.second k s → Here k (Departs R m n steps) s
    to s x = record { from = x.origin; is = record { before = at; at = rw x.origin here; strides = x.strides } }

    back : (s : ReachedPair) → Here k (Departs R m n steps) s → StridesFrom R m n at.first at.second k s
    back s h =
        let c = h.is in
        let same : c.before ≡ at = some_same _ _ _ (rw h.from at c.at) here in
        record { origin = h.from; strides = rw same at c.strides }

pub departs_low : (R : ℕ → ℕ → Type 0) (m n : Graph) (steps : List ReachedPair) (s : ReachedPair) → Departs R m n steps s → s.from < length steps
departs_low R m n steps s c = slice_get_within steps s.from c.before c.at
