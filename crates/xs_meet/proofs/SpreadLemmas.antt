-- How the steps that a layer has spread to all that they lead to.
use Rattle.std.proofs.Common.{◌≡◌, ℕ, ◌+◌, ◌<◌, ◌≤◌, ◌⊎◌, List, [], ◌++◌, length, get_or, length-append, refl, sym, ap, ◌∙◌, inl, inr, arith, append_assoc, append-nil}
use Rattle.std.proofs.lemmas.Bool.{cases_eq}
use Rattle.std.proofs.lemmas.Option.{slice_get_within, slice_get_read}
use Rattle.xs_class.proofs.Lists.{some_same, get_left, get_of_two}
use Rattle.xs_auto.specs.declared.call.Call.{Call}
use Rattle.xs_auto.specs.Edges.{Edge}
use Rattle.xs_meet.specs.declared.reached_pair.ReachedPair.{ReachedPair}
use Rattle.xs_meet.specs.declared.layer.Layer.{Layer}
use Rattle.xs_auto.specs.Marks.{Marks}
use Rattle.xs_auto.specs.Nets.{Graph, edges_of, moves_of, calls_of, states, rests}
use Rattle.xs_meet.specs.Closed.{IsClosed}
use Rattle.xs_meet.specs.Searches.{step, IsAt, IsFound, Among, Meets, Joins, DriftsFrom, StridesFrom, LeadsFrom, Gains, KeepsArea, Extends, Fits, IsFor, IsChained, IsClosedBelow, IsLonger, IsDrifted}
use Rattle.xs_meet.proofs.GainLemmas.{found_more, area_same, area_then, extends_then, extends_as}
use Rattle.xs_meet.proofs.WalkLemmas.{walks_pass}

pub same_step : (s : ReachedPair) (a b from : ℕ) → s.first ≡ a → s.second ≡ b → s.from ≡ from → s ≡ step a b from
same_step s a b from e f g = λ i. record { first = e i; second = f i; from = g i }

-- the pairs that the moves of the first net give, and then those that the moves of the second give
pub drifted_on : (m n : Graph) (a b from : ℕ) {k l p : Layer} (xs ys : List ℕ) → xs ≡ moves_of m a → ys ≡ moves_of n b → Extends (Among xs (λ c s. s ≡ step c b from)) k l → Extends (Among ys (λ d s. s ≡ step a d from)) l p → Extends (DriftsFrom m n a b from) k p
drifted_on m n a b from xs ys e f g h =
    extends_as (λ s. Among xs (λ c s. s ≡ step c b from) s ⊎ Among ys (λ d s. s ≡ step a d from) s) (DriftsFrom m n a b from) to back (extends_then (Among xs (λ c s. s ≡ step c b from)) (Among ys (λ d s. s ≡ step a d from)) g h)
  where
    to : (s : ReachedPair) → Among xs (λ c s. s ≡ step c b from) s ⊎ Among ys (λ d s. s ≡ step a d from) s → DriftsFrom m n a b from s
    to s (inl x) = rw x.gives (record { origin = refl; drifts = inl (record { move = rw (← e) x.has; still = refl }) })
    to s (inr y) = rw y.gives (record { origin = refl; drifts = inr (record { move = rw (← f) y.has; still = refl }) })

    back : (s : ReachedPair) → DriftsFrom m n a b from s → Among xs (λ c s. s ≡ step c b from) s ⊎ Among ys (λ d s. s ≡ step a d from) s
    back s d = elim d.drifts [
      | inl x ↦ inl (record { item = s.first; has = rw e x.move; gives = same_step s s.first b from refl x.still d.origin })
      | inr y ↦ inr (record { item = s.second; has = rw f y.move; gives = same_step s a s.second from y.still refl d.origin })
    ]

-- the pairs that the edges of both give, and then those that the calls of both give
pub strode_on : (R : ℕ → ℕ → Type 0) (m n : Graph) (a b from : ℕ) {k l p : Layer} (es fs : List Edge) (hs ks : List Call) → es ≡ edges_of m a → fs ≡ edges_of n b → hs ≡ calls_of m a → ks ≡ calls_of n b → Extends (Among es (λ e. Among fs (λ f. Meets e f from))) k l → Extends (Among hs (λ h. Among ks (λ k. Joins R h k from))) l p → Extends (StridesFrom R m n a b from) k p
strode_on R m n a b from es fs hs ks q r q' r' g h =
    extends_as (λ s. Among es (λ e. Among fs (λ f. Meets e f from)) s ⊎ Among hs (λ h. Among ks (λ k. Joins R h k from)) s) (StridesFrom R m n a b from) to back (extends_then (Among es (λ e. Among fs (λ f. Meets e f from))) (Among hs (λ h. Among ks (λ k. Joins R h k from))) g h)
  where
    to : (s : ReachedPair) → Among es (λ e. Among fs (λ f. Meets e f from)) s ⊎ Among hs (λ h. Among ks (λ k. Joins R h k from)) s → StridesFrom R m n a b from s
    to s (inl x) =
        let y = x.gives in
        let z = y.gives in
        rw z.is (record { origin = refl; strides = inl (z.symbol, record { first = x.item; second = y.item; of_first = rw (← q) x.has; of_second = rw (← r) y.has; takes_first = z.first; takes_second = z.second; to_first = refl; to_second = refl }) })
    to s (inr x) =
        let y = x.gives in
        let z = y.gives in
        rw z.is (record { origin = refl; strides = inr (x.item.group, y.item.group, record { first = x.item; second = y.item; of_first = rw (← q') x.has; of_second = rw (← r') y.has; over_first = refl; over_second = refl; related = z.related; to_first = refl; to_second = refl }) })

    back : (s : ReachedPair) → StridesFrom R m n a b from s → Among es (λ e. Among fs (λ f. Meets e f from)) s ⊎ Among hs (λ h. Among ks (λ k. Joins R h k from)) s
    back s d = elim d.strides [
      | inl x ↦
          let y = x.1 in
          inl (record { item = y.first; has = rw q y.of_first; gives = record { item = y.second; has = rw r y.of_second; gives = record { symbol = x.0; first = y.takes_first; second = y.takes_second; is = same_step s y.first.to y.second.to from (sym y.to_first) (sym y.to_second) d.origin } } })
      | inr x ↦
          let y = x.2 in
          inr (record { item = y.first; has = rw q' y.of_first; gives = record { item = y.second; has = rw r' y.of_second; gives = record { related = rw (y.over_first, y.over_second) y.related; is = same_step s y.first.to y.second.to from (sym y.to_first) (sym y.to_second) d.origin } } })
    ]

-- the pairs that empty moves give, and then those that edges or calls of both give
pub led_on : (R : ℕ → ℕ → Type 0) (m n : Graph) (a b from : ℕ) {k l p : Layer} → Extends (DriftsFrom m n a b from) k l → Extends (StridesFrom R m n a b from) l p → Extends (LeadsFrom R m n a b from) k p
led_on R m n a b from g h = extends_as (λ s. DriftsFrom m n a b from s ⊎ StridesFrom R m n a b from s) (LeadsFrom R m n a b from) to back (extends_then (DriftsFrom m n a b from) (StridesFrom R m n a b from) g h)
  where
    to : (s : ReachedPair) → DriftsFrom m n a b from s ⊎ StridesFrom R m n a b from s → LeadsFrom R m n a b from s
    to s (inl d) = record { origin = d.origin; leads = inl d.drifts }
    to s (inr x) = record { origin = x.origin; leads = inr x.strides }

    back : (s : ReachedPair) → LeadsFrom R m n a b from s → DriftsFrom m n a b from s ⊎ StridesFrom R m n a b from s
    back s d = elim d.leads [ inl x ↦ inl (record { origin = d.origin; drifts = x }) | inr x ↦ inr (record { origin = d.origin; strides = x }) ]

pub longer_same : (xs : List ReachedPair) → IsLonger xs xs
longer_same xs = record { added = []; is = sym (append-nil xs) }

pub longer_then : {xs ys zs : List ReachedPair} → IsLonger xs ys → IsLonger ys zs → IsLonger xs zs
longer_then {xs} a b = record { added = a.added ++ b.added; is = b.is ∙ ap (λ us. us ++ b.added) a.is ∙ append_assoc xs a.added b.added }

pub longer_at : {xs ys : List ReachedPair} (k : ℕ) (s : ReachedPair) → IsLonger xs ys → IsAt xs k s → IsAt ys k s
longer_at {xs} k s l e = rw l.is (get_left xs l.added k s e)

pub longer_found : {xs ys : List ReachedPair} {a b : ℕ} → IsLonger xs ys → IsFound xs a b → IsFound ys a b
longer_found l f = rw l.is (found_more l.added f)

pub longer_gains : (R : ReachedPair → Type 0) {xs ys : List ReachedPair} → Gains R xs ys → IsLonger xs ys
longer_gains R g = record { added = g.added; is = g.is }

pub longer_length : {xs ys : List ReachedPair} → IsLonger xs ys → length xs ≤ length ys
longer_length {xs} {ys} l = omega (arith, ap length l.is, length-append xs l.added)

-- the step that is read at a place
pub read_at : (steps : List ReachedPair) (i : ℕ) (s : ReachedPair) → i < length steps → s ≡ get_or steps i s → IsAt steps i s
read_at steps i s l e = slice_get_read steps (length steps) i s refl l e

-- the pair of a layer's step is one of states of the two nets
pub in_nets : (m n : Graph) {k l : Layer} (p : Marks) (i : ℕ) (s : ReachedPair) → IsFor m n k → KeepsArea k l → Fits l p → IsAt l.steps.items i s → (s.first < states m) × (s.second < states n)
in_nets m n p i s nets area f e = let r = f.in_range i s e in (rw (← nets.height, ← area.height) r.0, rw (← nets.width, ← area.width) r.1)

-- at the beginning no step is linked, and none was gone on from
pub chained_none : (R : ℕ → ℕ → Type 0) (m n : Graph) (xs : List ReachedPair) → IsChained R m n (length xs) xs
chained_none R m n xs k s l e = let h = slice_get_within xs k s e in absurd (omega arith)

pub closed_none : (L : ℕ → ℕ → ℕ → ℕ → Type 0) (xs : List ReachedPair) → IsClosedBelow L 0 xs
closed_none L xs i s l = absurd (omega arith)

-- what was added comes from the step at place k
pub chained_more : (R : ℕ → ℕ → Type 0) {m n : Graph} {seeds k : ℕ} {xs ys : List ReachedPair} (s : ReachedPair) → IsAt xs k s → IsChained R m n seeds xs → Gains (LeadsFrom R m n s.first s.second k) xs ys → IsChained R m n seeds ys
chained_more R {m} {n} {seeds} {k} {xs} {ys} s here chained g i t l e = elim (get_of_two xs g.added i t (rw g.is at e)) [
  | inl h ↦
      let c = chained i t l h in
      record { earlier = c.earlier; parent = c.parent; at = rw g.is (get_left xs g.added t.from c.parent c.at); leads = c.leads }
  | inr h ↦
      let r = g.each h.0 t h.2 in
      let w = slice_get_within xs k s here in
      record { earlier = omega (arith, r.origin, h.1); parent = s; at = rw (g.is, r.origin) (get_left xs g.added k s here); leads = r.leads }
]

-- the step at place k was gone on from
pub closed_more : (L : ℕ → ℕ → ℕ → ℕ → Type 0) {k : ℕ} {xs ys : List ReachedPair} (s : ReachedPair) → IsAt xs k s → IsClosedBelow L k xs → IsLonger xs ys → ((c d : ℕ) → L s.first s.second c d → IsFound ys c d) → IsClosedBelow L (k + 1) ys
closed_more L {k} {xs} {ys} s here closed more there i t l e c d leads =
    let w = slice_get_within xs k s here in
    elim (get_of_two xs more.added i t (rw more.is at e)) [
      | inl h ↦ elim (cases_eq i k) [
        | inl same ↦
            let one : t ≡ s = some_same _ _ _ h (rw same here) in
            there c d (rw one at leads)
        | inr ne ↦ longer_found more (closed i t (omega arith) h c d leads)
      ]
      | inr h ↦ absurd (omega (arith, h.1))
    ]

pub closed_all : (L : ℕ → ℕ → ℕ → ℕ → Type 0) {k : ℕ} {xs : List ReachedPair} → length xs ≤ k → IsClosedBelow L k xs → IsClosed L (IsFound xs)
closed_all L {k} {xs} l closed a b c d f leads =
    let w = slice_get_within xs f.place (step a b f.from) f.at in
    closed f.place (step a b f.from) (omega arith) f.at c d leads

-- a layer that gains steps: what it had is kept, and the steps before place k were gone on from
pub record GoesOn (L : ℕ → ℕ → ℕ → ℕ → Type 0) (old new : Layer) (p q : Marks) (k : ℕ) : Type 0 where
  pub cells : q.cells ≡ p.cells
  pub fits : Fits new q
  pub area : KeepsArea old new
  pub within : k ≤ length new.steps.items
  pub longer : IsLonger old.steps.items new.steps.items
  pub closed : IsClosedBelow L k new.steps.items

pub goes_none : (L : ℕ → ℕ → ℕ → ℕ → Type 0) (l : Layer) (p : Marks) → Fits l p → GoesOn L l l p p 0
goes_none L l p f = record {
  cells = refl;
  fits = f;
  area = area_same l;
  within = omega arith;
  longer = longer_same l.steps.items;
  closed = closed_none L l.steps.items;
}

-- the steps to which the one at place k leads
pub goes_more : (L : ℕ → ℕ → ℕ → ℕ → Type 0) (R : ReachedPair → Type 0) (from : ℕ) {k : ℕ} {old l m : Layer} {p q r : Marks} (s : ReachedPair) → IsAt l.steps.items k s → ((c d : ℕ) → L s.first s.second c d → R (step c d from)) → GoesOn L old l p q k → r.cells ≡ q.cells → Fits m r → Extends R l m → GoesOn L old m p r (k + 1)
goes_more L R from {k} {old} {l} {m} s here leads g cells fits more =
    let long = longer_gains R more.gains in
    let there = slice_get_within l.steps.items k s here in
    let grown = longer_length long in
    record {
      cells = cells ∙ g.cells;
      fits = fits;
      area = area_then g.area more.area;
      within = omega (arith, there, grown);
      longer = longer_then g.longer long;
      closed = closed_more L s here g.closed long (λ c d x. more.gains.there (step c d from) (leads c d x));
    }

-- each step of the beginning is drifted, and so is each that a drifted one leads to by an empty move
pub drifted_none : (m n : Graph) (xs : List ReachedPair) (k : ℕ) (s : ReachedPair) → IsAt xs k s → IsDrifted m n xs s
drifted_none m n xs k s e = record { place = k; seed = s; at = e; from = refl; first = rests; second = rests }

pub drifted_more : {m n : Graph} {us xs ys : List ReachedPair} (k : ℕ) (s : ReachedPair) → IsAt xs k s → ((i : ℕ) (t : ReachedPair) → IsAt xs i t → IsDrifted m n us t) → Gains (DriftsFrom m n s.first s.second s.from) xs ys → (i : ℕ) (t : ReachedPair) → IsAt ys i t → IsDrifted m n us t
drifted_more {m} {n} {us} {xs} {ys} k s here drifted g i t e = elim (get_of_two xs g.added i t (rw g.is at e)) [
  | inl h ↦ drifted i t h
  | inr h ↦
      let r = g.each h.0 t h.2 in
      let d = drifted k s here in
      elim r.drifts [
        | inl x ↦ record { place = d.place; seed = d.seed; at = d.at; from = r.origin ∙ d.from; first = walks_pass d.first x.move; second = rw x.still d.second }
        | inr y ↦ record { place = d.place; seed = d.seed; at = d.at; from = r.origin ∙ d.from; first = rw y.still d.first; second = walks_pass d.second y.move }
      ]
]
