-- What a whole search has found.
use Rattle.std.proofs.Common.{◌≡◌, ℕ, false, List, [], length, get_or, replicate, refl, sym, ap, inl, inr, arith, ◌∙◌, ◌↔◌}
use Rattle.std.proofs.lemmas.Bool.{true≢false, cases_lt}
use Rattle.std.proofs.lemmas.List.{length-replicate, get_or-replicate, get_or_past}
use Rattle.std.specs.List.{All}
use Rattle.std.proofs.lemmas.List.Elements.{All-nil}
use Rattle.xs_auto.proofs.BitLemmas.{copy_at}
use Rattle.xs_auto.specs.Nets.{Graph, states}
use Rattle.xs_meet.specs.Closed.{Marked, Drifts, Leads}
use Rattle.xs_closed.specs.declared.pair.Pair.{Pair}
use Rattle.xs_closed.specs.declared.sets.CutSets.{CutSets}
use Rattle.xs_closed.specs.Rows.{Grid, blank, marked, IsSized}
use Rattle.xs_closed.specs.Least.{Reach, begun, led, IsTableOf, IsPastFront, IsStride, IsPastMiddle, Fronts, Pauses, Middles, AreLeastOf}
use Rattle.xs_closed.specs.Laws.{IsWithin}
use Rattle.xs_closed.specs.Search.{HasPair, IsInside, IsListed, Adds, IsFor, Closes, AreFound}
use Rattle.xs_closed.proofs.LeastLemmas.{reach_within}
use Rattle.xs_closed.proofs.CloseLemmas.{for_more}

-- what is reached from fewer seeds
pub reach_from : {S T : ℕ → ℕ → Type 0} {L : ℕ → ℕ → ℕ → ℕ → Type 0} → IsWithin S T → {a b : ℕ} → Reach S L a b → Reach T L a b
reach_from {S} {T} {L} more r = reach_within (Reach T L) (λ a b s. begun (more a b s)) (λ a b c d r l. led r l) r

-- a table without marks
blank_cell : (n k : ℕ) → get_or (replicate n false) k false ≡ false
blank_cell n k = copy_at false n k

pub blank_row : (high wide a b : ℕ) → get_or (get_or (replicate high (replicate wide false)) a []) b false ≡ false
blank_row high wide a b = elim (cases_lt a high) [
  | inl low ↦ ap (λ r. get_or r b false) (get_or-replicate high a (replicate wide false) [] low) ∙ blank_cell wide b
  | inr beyond ↦ ap (λ r. get_or r b false) (get_or_past (replicate high (replicate wide false)) a [] (omega (arith, beyond, length-replicate high (replicate wide false))))
]

pub blank_none : (high wide a b : ℕ) → Marked (marked (blank high wide)) a b → ⊥
blank_none high wide a b h = true≢false (sym h ∙ blank_row high wide a b)

blank_sized : (high wide : ℕ) → IsSized high wide (blank high wide)
blank_sized high wide = record {
  high = length-replicate high (replicate wide false);
  wide = refl;
  even = λ a low. ap length (get_or-replicate high a (replicate wide false) [] low) ∙ length-replicate wide false;
}

pub blank_listed : (z : Grid) (high wide : ℕ) (ps : List Pair) → z ≡ blank high wide → ps ≡ [] → IsListed z ps
blank_listed z high wide ps e none = rw (e, none) (record {
  sized = rw (length-replicate high (replicate wide false)) (blank_sized high wide);
  inside = All-nil (IsInside (length (blank high wide).rows) wide);
  listed = λ a b h. absurd (blank_none high wide a b h);
  marks = λ a b h. absurd (omega (arith, h.1));
})

pub blank_for : (m n : Graph) (z : Grid) (high wide : ℕ) → z ≡ blank high wide → high ≡ states m → wide ≡ states n → IsFor m n z
blank_for m n z high wide e h w = record {
  high = ap (λ y. length y.rows) e ∙ length-replicate high (replicate wide false) ∙ h;
  wide = ap (λ y. y.wide) e ∙ w;
}

-- a table that was blank, was seeded by S, and was closed then
pub found : (S : ℕ → ℕ → Type 0) (L : ℕ → ℕ → ℕ → ℕ → Type 0) (m n : Graph) {x y z : Grid} {ps qs rs : List Pair} (high wide : ℕ) → x ≡ blank high wide → high ≡ states m → wide ≡ states n → Adds S x ps y qs → Closes L y z → IsListed z rs → AreFound (Reach S L) m n z rs
found S L m n {x} {y} {z} {ps} {qs} {rs} high wide e h w g c l = record {
  table = record { sized = sized; marks = λ a b. (to a b, back a b) };
  listed = l;
}
  where
    begins : IsFor m n x
    begins = blank_for m n x high wide e h w

    ends : IsFor m n z
    ends = for_more (for_more begins g.size) c.size

    sized : IsSized (states m) (states n) z
    sized = rw (← ends.high, ← ends.wide) l.sized

    seeded : IsWithin (Marked (marked y)) S
    seeded a b k = elim ((g.marks a b).0 k) [
      | inl old ↦ absurd (blank_none high wide a b (rw e at old))
      | inr s ↦ s
    ]

    to : (a b : ℕ) → Marked (marked z) a b → Reach S L a b
    to a b k = reach_from seeded ((c.marks a b).0 k)

    back : (a b : ℕ) → Reach S L a b → Marked (marked z) a b
    back a b r = (c.marks a b).1 (reach_from (λ a b s. (g.marks a b).1 (inr s)) r)

-- the pairs of a list are those of the set, and below the states
pub found_pairs : {Z : ℕ → ℕ → Type 0} {m n : Graph} {z : Grid} {ps : List Pair} → AreFound Z m n z ps → (a b : ℕ) → HasPair ps a b ↔ Z a b
found_pairs f a b = (λ h. (f.table.marks a b).0 (f.listed.marks a b h), λ h. f.listed.listed a b ((f.table.marks a b).1 h))

pub found_inside : {Z : ℕ → ℕ → Type 0} {m n : Graph} {z : Grid} {ps : List Pair} → AreFound Z m n z ps → All (IsInside (states m) (states n)) ps
found_inside f = rw (← f.table.sized.high, ← f.table.sized.wide) f.listed.inside

-- the seeds are the same
pub table_as : (S T : ℕ → ℕ → Type 0) {L : ℕ → ℕ → ℕ → ℕ → Type 0} {m n : Graph} {z : Grid} → IsWithin S T → IsWithin T S → IsTableOf (Reach S L) m n z → IsTableOf (Reach T L) m n z
table_as S T to back t = record { sized = t.sized; marks = λ a b. (λ h. reach_from to ((t.marks a b).0 h), λ r. (t.marks a b).1 (reach_from back r)) }

pub found_as : (S T : ℕ → ℕ → Type 0) {L : ℕ → ℕ → ℕ → ℕ → Type 0} {m n : Graph} {z : Grid} {ps : List Pair} → IsWithin S T → IsWithin T S → AreFound (Reach S L) m n z ps → AreFound (Reach T L) m n z ps
found_as S T to back f = record { table = table_as S T to back f.table; listed = f.listed }

-- what leads into a set from equal sets
pub past_front : {front rest : Graph} {Y Z : ℕ → ℕ → Type 0} → IsWithin Y Z → IsWithin (IsPastFront front rest Y) (IsPastFront front rest Z)
past_front more c d p = record { state = p.state; within = more p.state c p.within; final = p.final; starts = p.starts }

pub strides_from : {R : ℕ → ℕ → Type 0} {front rest : Graph} {Y Z : ℕ → ℕ → Type 0} → IsWithin Y Z → IsWithin (IsStride R front rest Y) (IsStride R front rest Z)
strides_from more c d s = record { front_state = s.front_state; rest_state = s.rest_state; within = more s.front_state s.rest_state s.within; stride = s.stride }

pub past_middle : {front rest : Graph} {Y Z : ℕ → ℕ → Type 0} → IsWithin Y Z → IsWithin (IsPastMiddle front rest Y) (IsPastMiddle front rest Z)
past_middle more c d p = record { state = p.state; within = more p.state d p.within; final = p.final; starts = p.starts }

-- the four searches of a cut, one after the other
pub all_found : (R : ℕ → ℕ → Type 0) (front rest : Graph) (s : CutSets) (fronts pauses middles : List Pair)
    → AreFound (Fronts R front) front front s.fronts fronts
    → AreFound (Reach (IsPastFront front rest (HasPair fronts)) (Drifts front rest)) front rest s.pauses pauses
    → AreFound (Reach (IsStride R front rest (HasPair pauses)) (Leads R front rest)) front rest s.middles middles
    → IsTableOf (Reach (IsPastMiddle front rest (HasPair middles)) (Leads R rest rest)) rest rest s.rests
    → AreLeastOf R front rest s
all_found R front rest s fronts pauses middles f p m r =
    let in_front = found_pairs f in
    let pause = found_as (IsPastFront front rest (HasPair fronts)) (IsPastFront front rest (Fronts R front)) (past_front (λ a b. (in_front a b).0)) (past_front (λ a b. (in_front a b).1)) p in
    let in_pause = found_pairs pause in
    let middle = found_as (IsStride R front rest (HasPair pauses)) (IsStride R front rest (Pauses R front rest)) (strides_from (λ a b. (in_pause a b).0)) (strides_from (λ a b. (in_pause a b).1)) m in
    let in_middle = found_pairs middle in
    record {
      fronts = f.table;
      pauses = pause.table;
      middles = middle.table;
      rests = table_as (IsPastMiddle front rest (HasPair middles)) (IsPastMiddle front rest (Middles R front rest)) (past_middle (λ a b. (in_middle a b).0)) (past_middle (λ a b. (in_middle a b).1)) r;
    }
