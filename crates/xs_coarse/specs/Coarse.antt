-- Coarse nets, the labels of their arcs, and a coarse net as searches over pairs of states see it.
use Rattle.std.specs.Prelude.{◌≡◌, ℕ, suc, ◌+◌, ◌-◌, ◌*◌, ◌<◌, ◌&&◌, nat_lt, nat_eq, Bool, true, false, List, [], ◌∷◌, ◌++◌, ◌↔◌, length, map, get_or, Some}
use Rattle.std.specs.List.{Contains, filter, range_with_len}
use Rattle.xs_class.specs.Classes.{Has}
use Rattle.xs_auto.specs.declared.call.Call.{Call}
use Rattle.xs_auto.specs.Edges.{Edge}
use Rattle.xs_auto.specs.Nets.{Graph, Node}
use Rattle.xs_coarse.specs.declared.arc.Arc.{Arc}

-- The labels of a grammar: the classes of those that read a symbol, the number of groups, and for
-- each two labels, by rows, whether they may read a common word.
pub record Table : Type 0 where
  pub classes : List (List (ℕ × ℕ))
  pub groups : ℕ
  pub bits : List Bool

-- the label of a class, and that of a group
abbrev pub class_label : ℕ → ℕ
class_label c = suc c

abbrev pub group_label : Table → ℕ → ℕ
group_label t h = suc (length t.classes + h)

-- how many labels there are
abbrev pub label_count : Table → ℕ
label_count t = suc (length t.classes + t.groups)

-- the class of a label that reads a symbol
abbrev pub class_at : Table → ℕ → List (ℕ × ℕ)
class_at t c = get_or t.classes c []

-- whether two labels may read a common word
abbrev pub may_meet : Table → ℕ → ℕ → Bool
may_meet t l k = get_or t.bits (l * label_count t + k) false

-- two groups may read a common word
abbrev pub MayCall : Table → ℕ → ℕ → Type 0
MayCall t h k = may_meet t (group_label t h) (group_label t k) ≡ true

-- there is a bit for each two labels, and classes that share a symbol may meet
pub record IsTable (t : Table) : Type 0 where
  pub cells : length t.bits ≡ label_count t * label_count t
  pub classes : (c d s : ℕ) → c < length t.classes → d < length t.classes → Has (class_at t c) s → Has (class_at t d) s → may_meet t (class_label c) (class_label d) ≡ true

-- a net: the number of its states, and its arcs
pub record Net : Type 0 where
  pub states : ℕ
  pub arcs : List Arc

-- each arc is between states of the net
pub record IsWithin (states : ℕ) (x : Arc) : Type 0 where
  pub from : x.from < states
  pub to : x.to < states

-- the arc is in the net
abbrev pub HasArc : Net → ℕ → ℕ → ℕ → Type 0
HasArc n a label b = Contains n.arcs (record { from = a; label = label; to = b })

-- the lists have the same arcs
abbrev pub HaveSameArcs : List Arc → List Arc → Type 0
HaveSameArcs xs ys = (x : Arc) → Contains xs x ↔ Contains ys x

-- the arc of a net whose states are numbered that much higher
abbrev pub shifted : ℕ → Arc → Arc
shifted by x = record { from = by + x.from; label = x.label; to = by + x.to }

-- two nets one after the other: state 0 of the second one is the last state of the first one
abbrev pub joined : Net → Net → Net
joined m n = record { states = m.states + n.states - 1; arcs = m.arcs ++ map (shifted (m.states - 1)) n.arcs }

-- an arc with a label between two states
abbrev pub one_arc : ℕ → Net
one_arc label = record { states = 2; arcs = record { from = 0; label = label; to = 1 } ∷ [] }

-- whether an arc leads from a state and reads nothing, a symbol, a group
abbrev pub is_move : ℕ → Arc → Bool
is_move a x = nat_eq x.from a && nat_eq x.label 0

abbrev pub is_edge : Table → ℕ → Arc → Bool
is_edge t a x = nat_eq x.from a && (nat_lt 0 x.label && nat_lt x.label (suc (length t.classes)))

abbrev pub is_call : Table → ℕ → Arc → Bool
is_call t a x = nat_eq x.from a && nat_lt (length t.classes) x.label

-- the empty moves, the edges and the calls of a state
abbrev pub moves_from : List Arc → ℕ → List ℕ
moves_from xs a = map (λ (x : Arc). x.to) (filter (is_move a) xs)

abbrev pub edge_of : Table → Arc → Edge
edge_of t x = record { class = class_at t (x.label - 1); to = x.to }

abbrev pub edges_from : Table → List Arc → ℕ → List Edge
edges_from t xs a = map (edge_of t) (filter (is_edge t a) xs)

abbrev pub call_from : Table → Arc → Call
call_from t x = record { group = x.label - suc (length t.classes); to = x.to }

abbrev pub calls_from : Table → List Arc → ℕ → List Call
calls_from t xs a = map (call_from t) (filter (is_call t a) xs)

-- a state of the net; one of them is final
abbrev pub node_of : Table → Net → ℕ → ℕ → Node
node_of t n final a = record { final = nat_eq a final; edges = edges_from t n.arcs a; moves = moves_from n.arcs a; calls = calls_from t n.arcs a }

-- the net from one state to another, as searches over pairs of states see it
abbrev pub view : Table → Net → ℕ → ℕ → Graph
view t n start final = record { start = Some start; nodes = map (node_of t n final) (range_with_len 0 n.states) }
