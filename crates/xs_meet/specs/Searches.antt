-- What a search over pairs of states has found, and how one pair leads to others.
use Rattle.std.specs.Prelude.{◌≡◌, ℕ, ◌+◌, ◌*◌, ◌<◌, ◌≤◌, true, List, [], ◌++◌, length, slice_get, Some}
use Rattle.std.specs.List.{Contains}
use Rattle.xs_class.specs.Classes.{Has}
use Rattle.xs_auto.specs.declared.call.Call.{Call}
use Rattle.xs_auto.specs.Edges.{Edge}
use Rattle.xs_meet.specs.declared.reached_pair.ReachedPair.{ReachedPair}
use Rattle.xs_meet.specs.declared.layer.Layer.{Layer}
use Rattle.xs_meet.specs.declared.seat.Seat.{Seat}
use Rattle.xs_auto.specs.Marks.{Marks, marked_at}
use Rattle.xs_auto.specs.Nets.{Graph, states, final_at, Walks}
use Rattle.xs_meet.specs.Closed.{Drifts, Strides, Leads, IsClosed}
use Rattle.xs_meet.specs.Seats.{start_of, other_of}

-- a step to the pair of a and b, from the place `from`
abbrev pub step : ℕ → ℕ → ℕ → ReachedPair
step a b from = record { first = a; second = b; from = from }

-- the step stands at place k
abbrev pub IsAt : List ReachedPair → ℕ → ReachedPair → Type 0
IsAt steps k s = slice_get steps k ≡ Some s

-- a step reached the pair of a and b
pub record IsFound (steps : List ReachedPair) (a b : ℕ) : Type 0 where
  pub place : ℕ
  pub from : ℕ
  pub at : IsAt steps place (step a b from)

-- some element gives the step
pub record Among {X : Type 0} (xs : List X) (Q : X → ReachedPair → Type 0) (s : ReachedPair) : Type 0 where
  pub item : X
  pub has : Contains xs item
  pub gives : Q item s

-- the two edges read a common symbol, and the step leads where they lead
pub record Meets (e f : Edge) (from : ℕ) (s : ReachedPair) : Type 0 where
  pub symbol : ℕ
  pub first : Has e.class symbol
  pub second : Has f.class symbol
  pub is : s ≡ step e.to f.to from

-- R relates the groups of the two calls, and the step leads where they lead
pub record Joins (R : ℕ → ℕ → Type 0) (h k : Call) (from : ℕ) (s : ReachedPair) : Type 0 where
  pub related : R h.group k.group
  pub is : s ≡ step h.to k.to from

-- the step comes from the place `from`, and empty moves lead to it from the pair of a and b
pub record DriftsFrom (m n : Graph) (a b from : ℕ) (s : ReachedPair) : Type 0 where
  pub origin : s.from ≡ from
  pub drifts : Drifts m n a b s.first s.second

-- the step comes from the place `from`, and edges or calls of both nets lead to it from the pair of
-- a and b
pub record StridesFrom (R : ℕ → ℕ → Type 0) (m n : Graph) (a b from : ℕ) (s : ReachedPair) : Type 0 where
  pub origin : s.from ≡ from
  pub strides : Strides R m n a b s.first s.second

-- the step comes from the place `from`, and empty moves, edges or calls lead to it from the pair of
-- a and b
pub record LeadsFrom (R : ℕ → ℕ → Type 0) (m n : Graph) (a b from : ℕ) (s : ReachedPair) : Type 0 where
  pub origin : s.from ≡ from
  pub leads : Leads R m n a b s.first s.second

-- what was found is kept in its places, each step after it is meant by R, and each pair that R
-- means is found
pub record Gains (R : ReachedPair → Type 0) (old new : List ReachedPair) : Type 0 where
  pub added : List ReachedPair
  pub is : new ≡ old ++ added
  pub each : (k : ℕ) (s : ReachedPair) → IsAt added k s → R s
  pub there : (s : ReachedPair) → R s → IsFound new s.first s.second

-- the same map, and the same numbers of states
pub record KeepsArea (old new : Layer) : Type 0 where
  pub map : new.map ≡ old.map
  pub height : new.height ≡ old.height
  pub width : new.width ≡ old.width

-- the layer has gained the steps that R means
pub record Extends (R : ReachedPair → Type 0) (old new : Layer) : Type 0 where
  pub area : KeepsArea old new
  pub seeds : new.seeds ≡ old.seeds
  pub gains : Gains R old.steps.items new.steps.items

-- the steps' pairs are below the numbers of states, which the map has room for, and each pair that
-- is marked there was found
pub record Fits (l : Layer) (p : Marks) : Type 0 where
  pub map : l.map < 3
  pub room : l.height * l.width ≤ p.cells
  pub in_range : (k : ℕ) (s : ReachedPair) → IsAt l.steps.items k s → (s.first < l.height) × (s.second < l.width)
  pub known : (a b : ℕ) → b < l.width → marked_at p l.map (a * l.width + b) ≡ true → IsFound l.steps.items a b

-- the layer is for pairs of a state of m and one of n
pub record IsFor (m n : Graph) (l : Layer) : Type 0 where
  pub height : l.height ≡ states m
  pub width : l.width ≡ states n

-- the step at place k comes from an earlier one, which leads to it
pub record IsLink (R : ℕ → ℕ → Type 0) (m n : Graph) (steps : List ReachedPair) (k : ℕ) (s : ReachedPair) : Type 0 where
  pub earlier : s.from < k
  pub parent : ReachedPair
  pub at : IsAt steps s.from parent
  pub leads : Leads R m n parent.first parent.second s.first s.second

-- each step from place `seeds` on does
abbrev pub IsChained : (ℕ → ℕ → Type 0) → Graph → Graph → ℕ → List ReachedPair → Type 0
IsChained R m n seeds steps = (k : ℕ) (s : ReachedPair) → seeds ≤ k → IsAt steps k s → IsLink R m n steps k s

-- where a pair before place k leads by L is found
abbrev pub IsClosedBelow : (ℕ → ℕ → ℕ → ℕ → Type 0) → ℕ → List ReachedPair → Type 0
IsClosedBelow L k steps = (i : ℕ) (s : ReachedPair) → i < k → IsAt steps i s → (c d : ℕ) → L s.first s.second c d → IsFound steps c d

-- the old steps stand in front
pub record IsLonger (old new : List ReachedPair) : Type 0 where
  pub added : List ReachedPair
  pub is : new ≡ old ++ added

-- all that the steps lead to was added after them
pub record Closes (R : ℕ → ℕ → Type 0) (m n : Graph) (old new : Layer) : Type 0 where
  pub area : KeepsArea old new
  pub longer : IsLonger old.steps.items new.steps.items
  pub seeds : new.seeds ≡ length old.steps.items
  pub chained : IsChained R m n (length old.steps.items) new.steps.items
  pub closed : IsClosed (Leads R m n) (IsFound new.steps.items)

-- pairs to which the steps lead were added after them, each with the place of a step that leads to it
pub record Follows (R : ℕ → ℕ → Type 0) (m n : Graph) (old new : Layer) : Type 0 where
  pub area : KeepsArea old new
  pub longer : IsLonger old.steps.items new.steps.items
  pub seeds : new.seeds ≡ length old.steps.items
  pub chained : IsChained R m n (length old.steps.items) new.steps.items

-- the step was reached by empty moves alone from one of the steps, whose origin it has
pub record IsDrifted (m n : Graph) (steps : List ReachedPair) (s : ReachedPair) : Type 0 where
  pub place : ℕ
  pub seed : ReachedPair
  pub at : IsAt steps place seed
  pub from : s.from ≡ seed.from
  pub first : Walks m seed.first [] s.first
  pub second : Walks n seed.second [] s.second

-- all that the steps lead to by empty moves was added after them
pub record ClosesDrifts (m n : Graph) (old new : Layer) : Type 0 where
  pub area : KeepsArea old new
  pub longer : IsLonger old.steps.items new.steps.items
  pub drifted : (k : ℕ) (s : ReachedPair) → IsAt new.steps.items k s → IsDrifted m n old.steps.items s
  pub closed : IsClosed (Drifts m n) (IsFound new.steps.items)

-- the step at place s.from of `steps` has a final first state, and s has its second one beside the
-- start of the other net
pub record Seeds (seat : Seat) (n : Graph) (start : ℕ) (steps : List ReachedPair) (s : ReachedPair) : Type 0 where
  pub end : ReachedPair
  pub at : IsAt steps s.from end
  pub final : final_at n end.first ≡ true
  pub starts : start_of seat s.first s.second ≡ start
  pub other : other_of seat s.first s.second ≡ end.second

-- edges that read a common symbol, or calls of groups that R relates, lead from the step at place
-- s.from of `steps` to s
pub record Departs (R : ℕ → ℕ → Type 0) (m n : Graph) (steps : List ReachedPair) (s : ReachedPair) : Type 0 where
  pub before : ReachedPair
  pub at : IsAt steps s.from before
  pub strides : Strides R m n before.first before.second s.first s.second

-- both states of the pair at place k are final
pub record EndsBoth (m n : Graph) (steps : List ReachedPair) (k : ℕ) : Type 0 where
  pub end : ReachedPair
  pub at : IsAt steps k end
  pub first : final_at m end.first ≡ true
  pub second : final_at n end.second ≡ true

-- all that the steps lead to is found, and no pair is of two final states
pub record EndsNowhere (R : ℕ → ℕ → Type 0) (m n : Graph) (steps : List ReachedPair) : Type 0 where
  pub closed : IsClosed (Leads R m n) (IsFound steps)
  pub none : (k : ℕ) → EndsBoth m n steps k → ⊥

-- the first states of the steps are below the one number, and the second ones below the other
abbrev pub InStates : ℕ → ℕ → List ReachedPair → Type 0
InStates height width steps = (k : ℕ) (s : ReachedPair) → IsAt steps k s → (s.first < height) × (s.second < width)

-- the steps' pairs are of states of m and n
abbrev pub InNets : Graph → Graph → List ReachedPair → Type 0
InNets m n steps = InStates (states m) (states n) steps

-- the edge and one of the others, which leads to a state, read the symbol x
pub record ReadsWith (e : Edge) (others : List Edge) (to x : ℕ) : Type 0 where
  pub other : Edge
  pub has : Contains others other
  pub takes : Has e.class x
  pub takes_too : Has other.class x
  pub leads : other.to ≡ to

-- one of the calls, of group h, leads to a state, and R relates group g and h
pub record CallsWith (R : ℕ → ℕ → Type 0) (g : ℕ) (others : List Call) (to h : ℕ) : Type 0 where
  pub other : Call
  pub has : Contains others other
  pub related : R g other.group
  pub over : other.group ≡ h
  pub leads : other.to ≡ to

-- one of the calls, of group g, leads to c, and one of the others, of group h, leads to d, and R
-- relates the groups
pub record CallsAmong (R : ℕ → ℕ → Type 0) (calls others : List Call) (c d g h : ℕ) : Type 0 where
  pub call : Call
  pub has : Contains calls call
  pub over : call.group ≡ g
  pub leads : call.to ≡ c
  pub beside : CallsWith R call.group others d h

-- no two of them do
abbrev pub NoneCalls : (ℕ → ℕ → Type 0) → List Call → List Call → ℕ → ℕ → Type 0
NoneCalls R calls others c d = (k : Call) (h : ℕ) → Contains calls k → k.to ≡ c → CallsWith R k.group others d h → ⊥
