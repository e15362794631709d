-- Whole searches: the pairs that each phase has reached, and the pieces by which it reached them.
use Rattle.std.specs.Prelude.{◌≡◌, ℕ, ◌<◌, ⊤, true, List, [], Some}
use Rattle.std.specs.List.{All}
use Rattle.xs_auto.specs.Nets.{Graph, final_at, Walks}
use Rattle.xs_auto.specs.Nests.{Group, Crossing}
use Rattle.xs_meet.specs.declared.piece.Piece.{Piece}
use Rattle.xs_meet.specs.declared.piece.Piece.TheVariants.{Symbol, Groups}
use Rattle.xs_meet.specs.declared.reached_pair.ReachedPair.{ReachedPair}
use Rattle.xs_meet.specs.declared.layer.Layer.{Layer}
use Rattle.xs_meet.specs.declared.seat.Seat.TheVariants.{First, Second}
use Rattle.xs_meet.specs.declared.trace.Trace.{Trace}
use Rattle.xs_meet.specs.declared.overlap.Reached.{Reached}
use Rattle.xs_meet.specs.declared.overlap.LapPieces.{LapPieces}
use Rattle.xs_meet.specs.Closed.{Drifts, ReadsBoth, CallsBoth, Leads, IsClosed}
use Rattle.xs_meet.specs.Pieces.{Spells}
use Rattle.xs_meet.specs.Shared.{IsSharedOver, AreOverlapOver}
use Rattle.xs_meet.specs.Searches.{IsAt, IsFound, InNets, IsChained, Seeds, Departs}

-- R relates the groups of the piece, if it has any
abbrev pub IsRelated : (ℕ → ℕ → Type 0) → Piece → Type 0
IsRelated R (Symbol s) = ⊤
IsRelated R (Groups g h) = R g h

-- edges that read the piece's symbol, or calls over its groups, lead from the pair of a and b to that
-- of c and d
abbrev pub Bridges : (ℕ → ℕ → Type 0) → Graph → Graph → ℕ → ℕ → ℕ → ℕ → Piece → Type 0
Bridges R m n a b c d (Symbol s) = ReadsBoth m n a b s c d
Bridges R m n a b c d (Groups g h) = CallsBoth R m n a b g h c d

-- whatever word the pieces spell over a nest, it leads both nets from the pair at one place to the
-- pair at another
pub record IsTraced (R : ℕ → ℕ → Type 0) (m n : Graph) (steps : List ReachedPair) (from to : ℕ) (ps : List Piece) : Type 0 where
  pub first : ReachedPair
  pub last : ReachedPair
  pub begins : IsAt steps from first
  pub ends : IsAt steps to last
  pub related : All (IsRelated R) ps
  pub crosses_first : (nest : List Group) (w : List ℕ) → Spells nest ps w → Crossing nest m first.first w last.first
  pub crosses_second : (nest : List Group) (w : List ℕ) → Spells nest ps w → Crossing nest n first.second w last.second

-- the pieces lead from a seed of the layer to the pair at the place
pub record IsTrace (R : ℕ → ℕ → Type 0) (m n : Graph) (l : Layer) (place : ℕ) (t : Trace) : Type 0 where
  pub seed : t.seed < l.seeds
  pub traced : IsTraced R m n l.steps.items t.seed place t.pieces.items

-- the steps that S means come first, all that they lead to comes after them, and nothing else
pub record IsSeeded (R : ℕ → ℕ → Type 0) (m n : Graph) (S : ReachedPair → Type 0) (l : Layer) : Type 0 where
  pub range : InNets m n l.steps.items
  pub seeded : (k : ℕ) (s : ReachedPair) → k < l.seeds → IsAt l.steps.items k s → S s
  pub there : (s : ReachedPair) → S s → IsFound l.steps.items s.first s.second
  pub chained : IsChained R m n l.seeds l.steps.items
  pub closed : IsClosed (Leads R m n) (IsFound l.steps.items)

-- the layer has the steps that S means, and no others
pub record HasOnly (S : ReachedPair → Type 0) (l : Layer) : Type 0 where
  pub each : (k : ℕ) (s : ReachedPair) → IsAt l.steps.items k s → S s
  pub there : (s : ReachedPair) → S s → IsFound l.steps.items s.first s.second

-- the pair of the starts
pub record IsRoot (m n : Graph) (s : ReachedPair) : Type 0 where
  pub first : m.start ≡ Some s.first
  pub second : n.start ≡ Some s.second
  pub from : s.from ≡ 0

-- the step was reached by empty moves from the second state of a front pair, whose first one is
-- final, and the start
pub record IsTurn (a b : Graph) (start : ℕ) (fronts : List ReachedPair) (s : ReachedPair) : Type 0 where
  pub front : ReachedPair
  pub at : IsAt fronts s.from front
  pub final : final_at a front.first ≡ true
  pub first : Walks a front.second [] s.first
  pub second : Walks b start [] s.second

-- all such pairs
pub record IsTurns (a b : Graph) (start : ℕ) (fronts : List ReachedPair) (l : Layer) : Type 0 where
  pub range : InNets a b l.steps.items
  pub turned : (k : ℕ) (s : ReachedPair) → IsAt l.steps.items k s → IsTurn a b start fronts s
  pub there : (s : ReachedPair) → Seeds Second a start fronts s → IsFound l.steps.items s.first s.second
  pub closed : IsClosed (Drifts a b) (IsFound l.steps.items)

-- the four phases: pairs of front states that one word reaches; turns; pairs that one symbol or call
-- or more reach from there; and pairs of rest states that one word reaches from where the front's
-- state is final
pub record AreReached (R : ℕ → ℕ → Type 0) (a b : Graph) (r : Reached) : Type 0 where
  pub start : ℕ
  pub starts : b.start ≡ Some start
  pub fronts : IsSeeded R a a (IsRoot a a) r.fronts
  pub turns : IsTurns a b start r.fronts.steps.items r.turns
  pub middles : IsSeeded R a b (Departs R a b r.turns.steps.items) r.middles
  pub rests : IsSeeded R b b (Seeds First a start r.middles.steps.items) r.rests

-- whatever word the pieces spell over a nest, both nets accept it
pub record ArePieces (R : ℕ → ℕ → Type 0) (m n : Graph) (ps : List Piece) : Type 0 where
  pub related : All (IsRelated R) ps
  pub shared : (nest : List Group) (w : List ℕ) → Spells nest ps w → IsSharedOver nest m n w

-- the same of the three words of an overlap
pub record AreLapPieces (R : ℕ → ℕ → Type 0) (front rest : Graph) (p : LapPieces) : Type 0 where
  pub related_x : All (IsRelated R) p.x.items
  pub related_a : All (IsRelated R) p.a.items
  pub related_y : All (IsRelated R) p.y.items
  pub overlap : (nest : List Group) (x a y : List ℕ) → Spells nest p.x.items x → Spells nest p.a.items a → Spells nest p.y.items y → AreOverlapOver nest front rest x a y
