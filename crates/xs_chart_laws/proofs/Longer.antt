-- A document with more symbols at its end: what stands up to the place before them is the same.
use Rattle.std.proofs.Common.{◌≡◌, ℕ, zero, suc, ◌+◌, ◌-◌, ◌<◌, ◌≤◌, List, [], ◌∷◌, ◌++◌, length, take, drop, Some, sym, ◌∙◌, subst, arith, length-append, append_assoc}
use Rattle.std.proofs.lemmas.List.{take-append-le}
use Rattle.std.specs.Prelude.{slice_get, slice_range}
use Rattle.xs_class.proofs.Lists.{get_left}
use Rattle.xs_gram.specs.declared.places.Place.{Place}
use Rattle.xs_gram.specs.Grammar.{Grammar}
use Rattle.xs_gram.specs.Languages.{IsFront}
use Rattle.xs_gram.specs.Chart.{Spells, IsCalled, begins, calls, SpeltBefore, Stands}
use Rattle.xs_chart_laws.specs.Reading.{Reads}
use Rattle.xs_chart_laws.proofs.Words.{Reads-is}

pub get_shorter : {X : Type 0} (w v : List X) (i : ℕ) (x : X) → i < length w → slice_get (w ++ v) i ≡ Some x → slice_get w i ≡ Some x
get_shorter [] v i x lt e = absurd (omega (arith, lt))
get_shorter (y ∷ w) v zero x lt e = e
get_shorter (y ∷ w) v (suc i) x lt e = get_shorter w v i x (omega (arith, lt)) e

pub reads_longer : (w v : List ℕ) (i : ℕ) (u : List ℕ) (j : ℕ) → Reads w i u j → Reads (w ++ v) i u j
reads_longer w v i [] j r = r
reads_longer w v i (x ∷ u) j r = (get_left w v i x r.0, reads_longer w v (suc i) u j r.1)

pub reads_shorter : (w v : List ℕ) (i : ℕ) (u : List ℕ) (j : ℕ) → j ≤ length w → Reads (w ++ v) i u j → Reads w i u j
reads_shorter w v i [] j le r = r
reads_shorter w v i (x ∷ u) j le r =
    let is = Reads-is (w ++ v) (suc i) u j r.1 in
    (get_shorter w v i x (omega (arith, is, le)) r.0, reads_shorter w v (suc i) u j le r.1)

taken : (w v : List ℕ) (i n : ℕ) → i + n ≤ length w → take n (drop i (w ++ v)) ≡ take n (drop i w)
taken w v zero n le = take-append-le n w v (omega (arith, le))
taken [] v (suc i) n le = absurd (omega (arith, le))
taken (x ∷ w) v (suc i) n le = taken w v i n (omega (arith, le))

pub slice_longer : (w v : List ℕ) (i j : ℕ) → i ≤ j → j ≤ length w → slice_range (w ++ v) i j ≡ slice_range w i j
slice_longer w v i j le within = taken w v i (j - i) (omega (arith, le, within))

module _ (g : Grammar) (w v : List ℕ) where
  long : (j : ℕ) → j ≤ length w → j ≤ length (w ++ v)
  long j le = let e = length-append w v in omega (arith, e, le)

  called_longer : (n h : ℕ) → IsCalled g w n h → IsCalled g (w ++ v) n h
  called_longer _ _ begins = begins
  called_longer _ _ (calls n h q e m s j c rule at le lw sp) = calls n h q e m s j (called_longer n h c) rule at le (long j lw) (subst (λ u. Spells g q e u) (sym (slice_longer w v h j le lw)) sp)

  called_shorter : (n h : ℕ) → h ≤ length w → IsCalled g (w ++ v) n h → IsCalled g w n h
  called_shorter _ _ within begins = begins
  called_shorter _ _ within (calls n h q e m s j c rule at le lw sp) = calls n h q e m s j (called_shorter n h (omega (arith, le, within)) c) rule at le within (subst (λ u. Spells g q e u) (slice_longer w v h j le within) sp)

  pub stands_longer : (c : Place) (i j : ℕ) → Stands g w c i j → Stands g (w ++ v) c i j
  stands_longer c i j st = (st.0, st.1, called_longer st.0 i st.2, st.3, long j st.4, subst (λ u. SpeltBefore g c u) (sym (slice_longer w v i j st.3 st.4)) st.5)

  pub stands_shorter : (c : Place) (i j : ℕ) → j ≤ length w → Stands g (w ++ v) c i j → Stands g w c i j
  stands_shorter c i j within st = (st.0, st.1, called_shorter st.0 i (let le = st.3 in omega (arith, le, within)) st.2, st.3, within, subst (λ u. SpeltBefore g c u) (slice_longer w v i j st.3 within) st.5)

  -- a front of what begins a word of the language begins one
  pub front_shorter : IsFront g (w ++ v) → IsFront g w
  front_shorter (u, (d, h)) = (v ++ u, (d, (h.0, h.1 ∙ append_assoc w v u)))
