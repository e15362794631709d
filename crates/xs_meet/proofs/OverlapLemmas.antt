-- Four phases show that there is no overlap, or the pieces of one.
use Rattle.std.proofs.Common.{◌≡◌, ℕ, ◌<◌, List, ◌∷◌, length, get_or, refl, ap, subst, ◌∙◌, length-append, arith}
use Rattle.std.specs.declared.option.Option.{Option}
use Rattle.std.specs.declared.option.Option.TheVariants.{Some, None}
use Rattle.std.specs.Option.{IfSome, IfNone, IsSome}
use Rattle.std.proofs.lemmas.Option.{slice_get_within}
use Rattle.xs_class.proofs.Lists.{some_same}
use Rattle.xs_auto.specs.Nets.{Graph}
use Rattle.xs_auto.specs.Nests.{Group, Crossing}
use Rattle.xs_meet.specs.declared.piece.Piece.{Piece}
use Rattle.xs_meet.specs.declared.piece.Piece.TheVariants.{Symbol, Groups}
use Rattle.xs_meet.specs.declared.reached_pair.ReachedPair.{ReachedPair}
use Rattle.xs_meet.specs.declared.layer.Layer.{Layer}
use Rattle.xs_meet.specs.declared.trace.Trace.{Trace}
use Rattle.xs_meet.specs.declared.overlap.Reached.{Reached}
use Rattle.xs_meet.specs.Closed.{Strides, IsClear}
use Rattle.xs_meet.specs.Pieces.{Spells, one_piece}
use Rattle.xs_meet.specs.Searches.{step, IsAt, IsFound, EndsBoth, Departs}
use Rattle.xs_meet.specs.Shared.{AreOverlapOver}
use Rattle.xs_meet.specs.Traces.{Bridges, IsTrace, AreReached}
use Rattle.xs_meet.proofs.WalkLemmas.{crosses_on, walk_crosses}
use Rattle.xs_meet.proofs.SpreadLemmas.{read_at}
use Rattle.xs_meet.proofs.PhaseLemmas.{found_end}
use Rattle.xs_meet.proofs.TraceLemmas.{bridge_first, bridge_second}

-- the four phases are four sets that show that there is no overlap, where no pair of two final rest
-- states is found
pub phases_clear : (R : ℕ → ℕ → Type 0) (a b : Graph) (r : Reached) → AreReached R a b r → ((k : ℕ) → EndsBoth b b r.rests.steps.items k → ⊥) → IsClear R a b (IsFound r.fronts.steps.items) (IsFound r.turns.steps.items) (IsFound r.middles.steps.items) (IsFound r.rests.steps.items)
phases_clear R a b r h none = record {
  starts = λ p q e f. h.fronts.there (step p q 0) (record { first = e; second = f; from = refl });
  closed1 = h.fronts.closed;
  to0 = λ p q s f e begun. subst (λ (k : ℕ). IsFound r.turns.steps.items q k) (some_same _ _ _ h.starts begun) (h.turns.there (step q h.start f.place) (record { end = step p q f.from; at = f.at; final = e; starts = refl; other = refl }));
  drifts0 = h.turns.closed;
  to2 = λ p q c d f x. h.middles.there (step c d f.place) (record { before = step p q f.from; at = f.at; strides = x });
  closed2 = h.middles.closed;
  to3 = λ p q s f e begun. subst (λ (k : ℕ). IsFound r.rests.steps.items k q) (some_same _ _ _ h.starts begun) (h.rests.there (step h.start q f.place) (record { end = step p q f.from; at = f.at; final = e; starts = refl; other = refl }));
  closed3 = h.rests.closed;
  none = found_end b b r.rests.steps.items none;
}

-- a piece spells no empty word
long : (nest : List Group) (p : Piece) (ps : List Piece) (w : List ℕ) → Spells nest (p ∷ ps) w → 0 < length w
long nest (Symbol s) ps w (one_piece u v means later split) = omega (arith, ap length split, length-append u v, ap length means)
long nest (Groups g h) ps w (one_piece u v means later split) = omega (arith, ap length split, length-append u v, ap length means.is)

-- the words that are spelt by the pieces of the four phases overlap
pub overlap : (R : ℕ → ℕ → Type 0) (a b : Graph) (r : Reached) (place : ℕ) (piece : Piece) (front middle rest : Trace) (end departure turn : ReachedPair) → AreReached R a b r → EndsBoth b b r.rests.steps.items place → IsTrace R b b r.rests place rest → IsAt r.rests.steps.items rest.seed end → IsTrace R a b r.middles end.from middle → IsAt r.middles.steps.items middle.seed departure → IsAt r.turns.steps.items departure.from turn → Bridges R a b turn.first turn.second departure.first departure.second piece → IsTrace R a a r.fronts turn.from front → (nest : List Group) (x m y : List ℕ) → Spells nest front.pieces.items x → Spells nest (piece ∷ middle.pieces.items) m → Spells nest rest.pieces.items y → AreOverlapOver nest a b x m y
overlap R a b r place piece front middle rest end departure turn h ends t at u left stood sides v nest xw mw yw sx sm sy =
    let x = v.traced in
    let m = u.traced in
    let y = t.traced in
    -- the rest's pair, and how it was seeded
    let last : y.last ≡ ends.end = some_same _ _ _ y.ends ends.at in
    let seed : y.first ≡ end = some_same _ _ _ y.begins at in
    let seeded = h.rests.seeded rest.seed end t.seed at in
    -- the middle's pair, and how it was seeded
    let turned : m.last ≡ seeded.end = some_same _ _ _ m.ends seeded.at in
    let departed : m.first ≡ departure = some_same _ _ _ m.begins left in
    -- the turn, and the front's pair
    let from = h.turns.turned departure.from turn stood in
    let fronted : x.last ≡ from.front = some_same _ _ _ x.ends from.at in
    let root = h.fronts.seeded front.seed x.first v.seed x.begins in
    let x_short : Crossing nest a x.first.first xw from.front.first = rw fronted at (x.crosses_first nest xw sx) in
    let x_long : Crossing nest a x.first.second xw from.front.second = rw fronted at (x.crosses_second nest xw sx) in
    let m_front : (w : List ℕ) → Spells nest middle.pieces.items w → Crossing nest a departure.first w seeded.end.first = λ w s. rw (departed, turned) at (m.crosses_first nest w s) in
    let m_rest : (w : List ℕ) → Spells nest middle.pieces.items w → Crossing nest b departure.second w seeded.end.second = λ w s. rw (departed, turned) at (m.crosses_second nest w s) in
    let y_short : Crossing nest b h.start yw ends.end.first = subst (λ (k : ℕ). Crossing nest b k yw ends.end.first) (ap (λ s. s.first) seed ∙ seeded.starts) (rw last at (y.crosses_first nest yw sy)) in
    let y_long : Crossing nest b seeded.end.second yw ends.end.second = subst (λ (k : ℕ). Crossing nest b k yw ends.end.second) (ap (λ s. s.second) seed ∙ seeded.other) (rw last at (y.crosses_second nest yw sy)) in
    let a_front : Crossing nest a from.front.second mw seeded.end.first = crosses_on (walk_crosses nest from.first) (bridge_first R a b _ _ _ _ _ nest piece middle.pieces.items mw sides m_front sm) in
    let a_rest : Crossing nest b h.start mw seeded.end.second = crosses_on (walk_crosses nest from.second) (bridge_second R a b _ _ _ _ _ nest piece middle.pieces.items mw sides m_rest sm) in
    record {
      some = long nest piece middle.pieces.items mw sm;
      short_front = record { first = x.first.first; last = from.front.first; starts = root.first; crosses = x_short; final = from.final };
      long_front = record { first = x.first.second; last = seeded.end.first; starts = root.second; crosses = crosses_on x_long a_front; final = seeded.final };
      short_rest = record { first = h.start; last = ends.end.first; starts = h.starts; crosses = y_short; final = ends.first };
      long_rest = record { first = h.start; last = ends.end.second; starts = h.starts; crosses = crosses_on a_rest y_long; final = ends.second };
    }

-- the pair at a trace's seed
pub at_seed : (R : ℕ → ℕ → Type 0) (m n : Graph) (l : Layer) (place : ℕ) (t : Trace) (s : ReachedPair) → IsTrace R m n l place t → s ≡ get_or l.steps.items t.seed s → IsAt l.steps.items t.seed s
at_seed R m n l place t s h e = read_at l.steps.items t.seed s (slice_get_within l.steps.items t.seed h.traced.first h.traced.begins) e

-- the pair before a departure
departed_at : (R : ℕ → ℕ → Type 0) (a b : Graph) (turns : List ReachedPair) (departure turn : ReachedPair) → Departs R a b turns departure → turn ≡ get_or turns departure.from turn → (IsAt turns departure.from turn) × Strides R a b turn.first turn.second departure.first departure.second
departed_at R a b turns departure turn c e =
    let at = read_at turns departure.from turn (slice_get_within turns departure.from c.before c.at) e in
    let same : c.before ≡ turn = some_same _ _ _ c.at at in
    (at, rw same at c.strides)

-- the same at the seed of a trace through the middles
pub departed_from : (R : ℕ → ℕ → Type 0) (a b : Graph) (r : Reached) (place : ℕ) (t : Trace) (departure turn : ReachedPair) → AreReached R a b r → IsTrace R a b r.middles place t → departure ≡ get_or r.middles.steps.items t.seed departure → turn ≡ get_or r.turns.steps.items departure.from turn → (IsAt r.turns.steps.items departure.from turn) × Strides R a b turn.first turn.second departure.first departure.second
departed_from R a b r place t departure turn reached trace is was = departed_at R a b r.turns.steps.items departure turn (reached.middles.seeded t.seed departure trace.seed (at_seed R a b r.middles place t departure trace is)) was

pub some_unless : {X : Type 0} {P : Type 0} (o : Option X) → IfNone o (P → ⊥) → P → IsSome o
some_unless None h p = absurd (h p)
some_unless (Some x) h p = refl

pub some_holds : {X : Type 0} (P : X → Type 0) (o : Option X) (x : X) → o ≡ Some x → IfSome o P → P x
some_holds P o x e h = subst (λ q. IfSome q P) e h
