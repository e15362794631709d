-- Graphs, what reaches what in them, their components, and the nodes that lie on cycles.
use Rattle.std.specs.Prelude.{◌≡◌, ◌↔◌, ℕ, ◌<◌, ◌≤◌, List, [], length, slice_index, slice_index_or}
use Rattle.std.specs.List.{All, Contains}

-- the targets of the node; a node that there is not has none
abbrev pub targets_of : List (List ℕ) → ℕ → List ℕ
targets_of graph a = slice_index_or graph a []

-- each target is a node
abbrev pub IsGraph : List (List ℕ) → Type 0
IsGraph graph = (a : ℕ) → All (λ b. b < length graph) (targets_of graph a)

-- an edge leads from a to b
abbrev pub HasEdge : List (List ℕ) → ℕ → ℕ → Type 0
HasEdge graph a b = Contains (targets_of graph a) b

-- edges lead from a to b, one after another, or none if b is a
pub data Reaches (graph : List (List ℕ)) : ℕ → ℕ → Type 0 where
  stays : {a : ℕ} → Reaches graph a a
  passes : {a b c : ℕ} → HasEdge graph a b → Reaches graph b c → Reaches graph a c

-- each of the two reaches the other
abbrev pub AreOne : List (List ℕ) → ℕ → ℕ → Type 0
AreOne graph a b = Reaches graph a b × Reaches graph b a

-- Each node has its component's number: two have the same number exactly where each reaches the
-- other, and no edge leads to a node of a greater number.
pub record AreComponents (graph : List (List ℕ)) (numbers : List ℕ) : Type 0 where
  pub counted : length numbers ≡ length graph
  pub one : (a b : ℕ) → a < length graph → b < length graph → (slice_index numbers a ≡ slice_index numbers b) ↔ AreOne graph a b
  pub falls : (a b : ℕ) → HasEdge graph a b → slice_index numbers b ≤ slice_index numbers a

-- the node lies on a cycle: an edge leads to a node that reaches it
pub record IsCyclic (graph : List (List ℕ)) (a : ℕ) : Type 0 where
  pub next : ℕ
  pub edge : HasEdge graph a next
  pub back : Reaches graph next a

-- the least node that lies on a cycle
pub record IsFirstCyclic (graph : List (List ℕ)) (a : ℕ) : Type 0 where
  pub cyclic : IsCyclic graph a
  pub first : (b : ℕ) → b < a → IsCyclic graph b → ⊥

-- the numbers fall along each edge
abbrev pub FallAlong : List (List ℕ) → List ℕ → Type 0
FallAlong graph numbers = (a b : ℕ) → HasEdge graph a b → slice_index numbers b < slice_index numbers a

-- one of the targets has this number
pub record HasNumber (targets numbers : List ℕ) (number : ℕ) : Type 0 where
  pub target : ℕ
  pub has : Contains targets target
  pub is : slice_index numbers target ≡ number
