-- How a search goes on from each pair of its list to all that is reached.
use Rattle.std.proofs.Common.{◌≡◌, ℕ, ◌+◌, ◌<◌, ◌≤◌, List, length, get_or, refl, sym, subst, inl, inr, arith, slice_get}
use Rattle.std.proofs.lemmas.Bool.{cases_eq}
use Rattle.std.proofs.lemmas.Option.{slice_get_within, slice_get_read}
use Rattle.std.specs.declared.option.Option.TheVariants.{Some}
use Rattle.xs_class.proofs.Lists.{some_same, get_of, contains_of, get_of_two}
use Rattle.xs_auto.specs.Nets.{Graph, states}
use Rattle.xs_meet.specs.Closed.{Marked, IsClosed}
use Rattle.xs_closed.specs.declared.pair.Pair.{Pair}
use Rattle.xs_closed.specs.Rows.{Grid, marked}
use Rattle.xs_closed.specs.Least.{Reach, begun, led}
use Rattle.xs_closed.specs.Search.{pair, IsInside, IsListed, KeepsSize, Adds, IsFor, IsClosedBelow, Closes}
use Rattle.xs_closed.proofs.LeastLemmas.{reach_within}
use Rattle.xs_closed.proofs.AddLemmas.{size_same, size_then}

pub for_more : {m n : Graph} {y z : Grid} → IsFor m n y → KeepsSize y z → IsFor m n z
for_more f s = record { high = omega (arith, f.high, s.high); wide = omega (arith, f.wide, s.wide) }

-- the states of a pair of the list are states of the two nets
pub inside_at : (m n : Graph) (z : Grid) (ps : List Pair) (k : ℕ) (p : Pair) → IsFor m n z → IsListed z ps → k < length ps → p ≡ get_or ps k p → IsInside (states m) (states n) p
inside_at m n z ps k p f l low e =
    let i = subst (λ (q : Pair). IsInside (length z.rows) z.wide q) (sym e) (l.inside k p low) in
    record { first = omega (arith, i.first, f.high); second = omega (arith, i.second, f.wide) }

-- the list so far: what is marked was reached, and the pairs before place k were gone on from
pub record GoesOn (L : ℕ → ℕ → ℕ → ℕ → Type 0) (old new : Grid) (k : ℕ) (ps : List Pair) : Type 0 where
  pub size : KeepsSize old new
  pub kept : (a b : ℕ) → Marked (marked old) a b → Marked (marked new) a b
  pub reached : (a b : ℕ) → Marked (marked new) a b → Reach (Marked (marked old)) L a b
  pub closed : IsClosedBelow L k ps

pub goes_none : (L : ℕ → ℕ → ℕ → ℕ → Type 0) (z : Grid) (ps : List Pair) → GoesOn L z z 0 ps
goes_none L z ps = record {
  size = size_same z;
  kept = λ a b h. h;
  reached = λ a b h. begun h;
  closed = λ i p l. absurd (omega arith);
}

-- the pair at place k was gone on from
pub goes_more : (L : ℕ → ℕ → ℕ → ℕ → Type 0) {x y z : Grid} {k : ℕ} {ps qs : List Pair} (p : Pair) → k < length ps → p ≡ get_or ps k p → IsListed y ps → IsListed z qs → GoesOn L x y k ps → Adds (L p.first p.second) y ps z qs → GoesOn L x z (k + 1) qs
goes_more L {x} {y} {z} {k} {ps} {qs} p low read before after g h = record {
  size = size_then g.size h.size;
  kept = λ a b m. (h.marks a b).1 (inl (g.kept a b m));
  reached = reached;
  closed = closed;
}
  where
    here : slice_get ps k ≡ Some p
    here = slice_get_read ps (length ps) k p refl low read

    reached : (a b : ℕ) → Marked (marked z) a b → Reach (Marked (marked x)) L a b
    reached a b m = elim ((h.marks a b).0 m) [
      | inl old ↦ g.reached a b old
      | inr l ↦ led (g.reached p.first p.second (before.marks p.first p.second (contains_of ps k p here))) l
    ]

    closed : IsClosedBelow L (k + 1) qs
    closed i q l e c d leads = elim (get_of_two ps h.longer.added i q (rw h.longer.is at e)) [
      | inl f ↦ elim (cases_eq i k) [
        | inl same ↦
            let one : q ≡ p = some_same _ _ _ f (rw same here) in
            after.listed c d ((h.marks c d).1 (inr (rw one at leads)))
        | inr ne ↦
            let old = g.closed i q (omega arith) f c d leads in
            after.listed c d ((h.marks c d).1 (inl (before.marks c d old)))
      ]
      | inr f ↦ absurd (omega (arith, f.1))
    ]

-- all were gone on from
pub goes_all : (L : ℕ → ℕ → ℕ → ℕ → Type 0) {y z : Grid} {k : ℕ} {ps : List Pair} → length ps ≤ k → IsListed z ps → GoesOn L y z k ps → Closes L y z
goes_all L {y} {z} {k} {ps} all l g = record {
  size = g.size;
  marks = λ a b. (g.reached a b, λ r. reach_within (Marked (marked z)) g.kept closed r);
}
  where
    closed : IsClosed L (Marked (marked z))
    closed a b c d m leads =
        let i = get_of ps (pair a b) (l.listed a b m) in
        let low = slice_get_within ps i.0 (pair a b) i.1 in
        l.marks c d (g.closed i.0 (pair a b) (omega (arith, low, all)) i.1 c d leads)
