-- What the pairs that were visited say of how a pair leads to others.
use Rattle.std.proofs.Common.{◌≡◌, ℕ, ◌⊎◌, List, length, arith, refl, sym, subst, inl, inr}
use Rattle.xs_auto.specs.declared.call.Call.{Call}
use Rattle.xs_auto.specs.Edges.{Edge}
use Rattle.xs_auto.specs.Nets.{Graph, edges_of, moves_of, calls_of}
use Rattle.xs_meet.specs.Closed.{Marked, Drifts, Strides}
use Rattle.xs_closed.specs.declared.moves.Moves.{Moves}
use Rattle.xs_closed.specs.declared.moves.Moves.TheVariants.{Empty, Every}
use Rattle.xs_closed.specs.declared.pair.Pair.{Pair}
use Rattle.xs_closed.specs.Rows.{Grid, marked}
use Rattle.xs_closed.specs.Search.{Adds, IsPair, OneOf, Meets, Joins, LeadsBy}
use Rattle.xs_closed.proofs.AddLemmas.{adds_then, adds_as, adds_known}

-- the pairs that the moves of the first net give, and then those that the moves of the second give
pub drifted_on : (m n : Graph) (a b : ℕ) {x y z : Grid} {ps qs rs : List Pair} (us vs : List ℕ) → us ≡ moves_of m a → vs ≡ moves_of n b → Adds (OneOf us (λ c. IsPair c b)) x ps y qs → Adds (OneOf vs (λ d. IsPair a d)) y qs z rs → Adds (Drifts m n a b) x ps z rs
drifted_on m n a b us vs e f g h =
    adds_as (λ c d. OneOf us (λ c. IsPair c b) c d ⊎ OneOf vs (λ d. IsPair a d) c d) (Drifts m n a b) to back (adds_then (OneOf us (λ c. IsPair c b)) (OneOf vs (λ d. IsPair a d)) g h)
  where
    to : (c d : ℕ) → OneOf us (λ c. IsPair c b) c d ⊎ OneOf vs (λ d. IsPair a d) c d → Drifts m n a b c d
    to c d (inl x) = inl (record { move = rw (← e, x.leads.first) x.has; still = x.leads.second })
    to c d (inr y) = inr (record { move = rw (← f, y.leads.second) y.has; still = y.leads.first })

    back : (c d : ℕ) → Drifts m n a b c d → OneOf us (λ c. IsPair c b) c d ⊎ OneOf vs (λ d. IsPair a d) c d
    back c d (inl x) = inl (record { item = c; has = rw e x.move; leads = record { first = refl; second = x.still } })
    back c d (inr y) = inr (record { item = d; has = rw f y.move; leads = record { first = y.still; second = refl } })

-- the pairs that the edges of both give, and then those that the calls of both give
pub strode_on : (R : ℕ → ℕ → Type 0) (m n : Graph) (a b : ℕ) {x y z : Grid} {ps qs rs : List Pair} (es fs : List Edge) (hs ks : List Call) → es ≡ edges_of m a → fs ≡ edges_of n b → hs ≡ calls_of m a → ks ≡ calls_of n b → Adds (OneOf es (λ e. OneOf fs (Meets e))) x ps y qs → Adds (OneOf hs (λ h. OneOf ks (Joins R h))) y qs z rs → Adds (Strides R m n a b) x ps z rs
strode_on R m n a b es fs hs ks q r q' r' g h =
    adds_as (λ c d. OneOf es (λ e. OneOf fs (Meets e)) c d ⊎ OneOf hs (λ h. OneOf ks (Joins R h)) c d) (Strides R m n a b) to back (adds_then (OneOf es (λ e. OneOf fs (Meets e))) (OneOf hs (λ h. OneOf ks (Joins R h))) g h)
  where
    to : (c d : ℕ) → OneOf es (λ e. OneOf fs (Meets e)) c d ⊎ OneOf hs (λ h. OneOf ks (Joins R h)) c d → Strides R m n a b c d
    to c d (inl x) =
        let y = x.leads in
        let z = y.leads in
        inl (z.symbol, record { first = x.item; second = y.item; of_first = rw (← q) x.has; of_second = rw (← r) y.has; takes_first = z.takes_first; takes_second = z.takes_second; to_first = z.to_first; to_second = z.to_second })
    to c d (inr x) =
        let y = x.leads in
        let z = y.leads in
        inr (x.item.group, y.item.group, record { first = x.item; second = y.item; of_first = rw (← q') x.has; of_second = rw (← r') y.has; over_first = refl; over_second = refl; related = z.related; to_first = z.to_first; to_second = z.to_second })

    back : (c d : ℕ) → Strides R m n a b c d → OneOf es (λ e. OneOf fs (Meets e)) c d ⊎ OneOf hs (λ h. OneOf ks (Joins R h)) c d
    back c d (inl x) =
        let y = x.1 in
        inl (record { item = y.first; has = rw q y.of_first; leads = record { item = y.second; has = rw r y.of_second; leads = record { symbol = x.0; takes_first = y.takes_first; takes_second = y.takes_second; to_first = y.to_first; to_second = y.to_second } } })
    back c d (inr x) =
        let y = x.2 in
        inr (record { item = y.first; has = rw q' y.of_first; leads = record { item = y.second; has = rw r' y.of_second; leads = record { related = rw (y.over_first, y.over_second) y.related; to_first = y.to_first; to_second = y.to_second } } })

-- a pair of states one of which has none leads nowhere by edges and calls
pub strode_none : (R : ℕ → ℕ → Type 0) (m n : Graph) (a b : ℕ) (z : Grid) (ps : List Pair) → (length (edges_of m a) ≡ 0) ⊎ (length (edges_of n b) ≡ 0) → (length (calls_of m a) ≡ 0) ⊎ (length (calls_of n b) ≡ 0) → Adds (Strides R m n a b) z ps z ps
strode_none R m n a b z ps e f = adds_known (Strides R m n a b) z ps none
  where
    none : (c d : ℕ) → Strides R m n a b c d → Marked (marked z) c d
    none c d (inl x) = elim e [
      | inl l ↦ absurd (omega (arith, x.1.of_first.1, l))
      | inr l ↦ absurd (omega (arith, x.1.of_second.1, l))
    ]
    none c d (inr y) = elim f [
      | inl l ↦ absurd (omega (arith, y.2.of_first.1, l))
      | inr l ↦ absurd (omega (arith, y.2.of_second.1, l))
    ]

-- two edges that read a common symbol lead to one pair, and others lead to none that is not marked
pub meets_new : (e f : Edge) {y z : Grid} {ps qs : List Pair} → Meets e f e.to f.to → Adds (IsPair e.to f.to) y ps z qs → Adds (Meets e f) y ps z qs
meets_new e f m g =
    adds_as (IsPair e.to f.to) (Meets e f) (λ c d p. record { symbol = m.symbol; takes_first = m.takes_first; takes_second = m.takes_second; to_first = sym p.first; to_second = sym p.second }) (λ c d k. record { first = sym k.to_first; second = sym k.to_second }) g

pub meets_old : (e f : Edge) (z : Grid) (ps : List Pair) → (Meets e f e.to f.to → Marked (marked z) e.to f.to) → Adds (Meets e f) z ps z ps
meets_old e f z ps known =
    adds_known (Meets e f) z ps (λ c d k. rw (← k.to_first, ← k.to_second) (known (record { symbol = k.symbol; takes_first = k.takes_first; takes_second = k.takes_second; to_first = refl; to_second = refl })))

-- two calls over related groups lead to one pair, and others to none
pub joins_new : (R : ℕ → ℕ → Type 0) (h k : Call) {y z : Grid} {ps qs : List Pair} → R h.group k.group → Adds (IsPair h.to k.to) y ps z qs → Adds (Joins R h k) y ps z qs
joins_new R h k r g = adds_as (IsPair h.to k.to) (Joins R h k) (λ c d p. record { related = r; to_first = sym p.first; to_second = sym p.second }) (λ c d j. record { first = sym j.to_first; second = sym j.to_second }) g

pub joins_none : (R : ℕ → ℕ → Type 0) (h k : Call) (z : Grid) (ps : List Pair) → (R h.group k.group → ⊥) → Adds (Joins R h k) z ps z ps
joins_none R h k z ps none = adds_known (Joins R h k) z ps (λ c d j. absurd (none j.related))

-- where all of the moves lead
pub led_empty : (moves : Moves) (R : ℕ → ℕ → Type 0) (m n : Graph) (a b : ℕ) {x y : Grid} {ps qs : List Pair} → moves ≡ Empty → Adds (Drifts m n a b) x ps y qs → Adds (LeadsBy moves R m n a b) x ps y qs
led_empty moves R m n a b {x} {y} {ps} {qs} e g = subst (λ (k : Moves). Adds (LeadsBy k R m n a b) x ps y qs) (sym e) g

pub led_all : (moves : Moves) (R : ℕ → ℕ → Type 0) (m n : Graph) (a b : ℕ) {x y z : Grid} {ps qs rs : List Pair} → moves ≡ Every → Adds (Drifts m n a b) x ps y qs → Adds (Strides R m n a b) y qs z rs → Adds (LeadsBy moves R m n a b) x ps z rs
led_all moves R m n a b {x} {y} {z} {ps} {qs} {rs} e g h = subst (λ (k : Moves). Adds (LeadsBy k R m n a b) x ps z rs) (sym e) (adds_then (Drifts m n a b) (Strides R m n a b) g h)
