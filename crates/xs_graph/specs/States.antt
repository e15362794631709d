-- How far a search has come: what it knows of each node, which nodes wait, and whose edges it
-- walks.
use Rattle.std.specs.Prelude.{◌≡◌, ◌≢◌, ℕ, suc, ◌+◌, ◌*◌, ◌-◌, ◌<◌, ◌≤◌, List, [], ◌∷◌, ◌++◌, length, set, take, drop, reverse, min, slice_index, slice_index_or}
use Rattle.std.specs.List.{sum_by}
use Rattle.xs_graph.specs.declared.frame.Frame.{Frame}
use Rattle.xs_graph.specs.declared.visit.Visit.{Visit}
use Rattle.xs_graph.specs.declared.visit.Visit.TheVariants.{Unseen, Open, Closed}
use Rattle.xs_graph.specs.declared.search.Search.{Search}
use Rattle.xs_graph.specs.Graphs.{targets_of, HasEdge, Reaches}

-- the number of the node's component, or 0 where it has none
abbrev pub number_of : Visit → ℕ
number_of Unseen = 0
number_of (Open place) = 0
number_of (Closed number) = number

-- what is known of the node; one that there is not is unseen
abbrev pub visit_of : List Visit → ℕ → Visit
visit_of visits a = slice_index_or visits a Unseen

-- the node has a component, or waits at this place or after it
abbrev pub IsPast : ℕ → Visit → Type 0
IsPast least Unseen = ⊥
IsPast least (Open place) = least ≤ place
IsPast least (Closed number) = Unit {0}

-- 1 for a node that was not reached
abbrev pub one_unseen : Visit → ℕ
one_unseen Unseen = 1
one_unseen (Open place) = 0
one_unseen (Closed number) = 0

-- how many nodes were not reached
abbrev pub unseen : List Visit → ℕ
unseen visits = sum_by one_unseen visits

-- what a search has: the visits, the nodes that wait, in the order in which they were reached, the
-- frames, innermost first, and how many components were found
pub record State : Type 0 where
  pub visits : List Visit
  pub waiting : List ℕ
  pub path : List Frame
  pub count : ℕ

-- what the search has; its last frame is the innermost
abbrev pub state_of : Search → State
state_of s = record { visits = s.visits.items; waiting = s.waiting.items; path = reverse s.path.items; count = s.count }

-- these frames
abbrev pub with_path : List Frame → State → State
with_path path s = record { visits = s.visits; waiting = s.waiting; path = path; count = s.count }

-- the frame inside all others
abbrev pub with_frame : Frame → State → State
with_frame f s = with_path (f ∷ s.path) s

-- the node waits after all others, in a frame inside all others
abbrev pub opened : ℕ → State → State
opened a s = record {
  visits = set s.visits a (Open (length s.waiting));
  waiting = s.waiting ++ a ∷ [];
  path = record { node = a; place = length s.waiting; least = length s.waiting; next = 0 } ∷ s.path;
  count = s.count;
}

-- the frame with its next edge walked
abbrev pub passed : Frame → Frame
passed f = record { node = f.node; place = f.place; least = f.least; next = f.next + 1 }

-- the frame, whose node reaches this place too
abbrev pub lower : ℕ → Frame → Frame
lower place f = record { node = f.node; place = f.place; least = min f.least place; next = f.next }

-- the nodes have the component of this number
abbrev pub close_all : ℕ → List Visit → List ℕ → List Visit
close_all number visits [] = visits
close_all number visits (a ∷ nodes) = close_all number (set visits a (Closed number)) nodes

-- the nodes that wait from this place on are one component
abbrev pub closed_from : ℕ → State → State
closed_from place s = record {
  visits = close_all s.count s.visits (drop place s.waiting);
  waiting = take place s.waiting;
  path = s.path;
  count = s.count + 1;
}

-- the innermost frame, whose node reaches this place too, and the other frames
abbrev pub lower_first : ℕ → List Frame → List Frame
lower_first place [] = []
lower_first place (f ∷ path) = lower place f ∷ path

-- what was reached through a frame counts as reached through the frame around it
abbrev pub merged : ℕ → State → State
merged place s = with_path (lower_first place s.path) s

-- the next edge of the frame, which was passed already, led to a node of which this is known
abbrev pub followed_by : Frame → ℕ → State → Visit → State
followed_by f b s Unseen = opened b (with_frame f s)
followed_by f b s (Open place) = with_frame (lower place f) s
followed_by f b s (Closed number) = with_frame f s

-- the same by what is known of the node
abbrev pub followed : Frame → ℕ → State → State
followed f b s = followed_by f b s (visit_of s.visits b)

-- What a search knows at a frame, where the nodes that wait from the frame's place up to `top` were
-- reached through it: each of them reaches the frame's node, which reaches the node of the least
-- place, and the edges that were walked lead to no node before that place.
pub record IsFrame (graph : List (List ℕ)) (visits : List Visit) (waiting : List ℕ) (top : ℕ) (f : Frame) : Type 0 where
  pub below : f.place < top
  pub here : slice_index waiting f.place ≡ f.node
  pub least : f.least ≤ f.place
  pub falls : Reaches graph f.node (slice_index waiting f.least)
  pub gathers : (k : ℕ) → f.place ≤ k → k < top → Reaches graph (slice_index waiting k) f.node
  pub walked : (k : ℕ) → k < f.next → k < length (targets_of graph f.node) → IsPast f.least (visit_of visits (slice_index (targets_of graph f.node) k))
  pub finished : (k b : ℕ) → f.place < k → k < top → HasEdge graph (slice_index waiting k) b → IsPast f.least (visit_of visits b)

-- the same of each frame, where each holds the nodes up to the next one's
abbrev pub IsPath : List (List ℕ) → List Visit → List ℕ → ℕ → List Frame → Type 0
IsPath graph visits waiting top [] = top ≡ 0
IsPath graph visits waiting top (f ∷ path) = IsFrame graph visits waiting top f × IsPath graph visits waiting f.place path

-- the node has a component of no greater number
pub record IsClosedWithin (visits : List Visit) (b : ℕ) (most : ℕ) : Type 0 where
  pub number : ℕ
  pub is : visit_of visits b ≡ Closed number
  pub within : number ≤ most

-- What a search knows: an earlier node that waits reaches each later one, edges from components
-- lead to components of no greater number, and the nodes of one component reach each other.
pub record IsState (graph : List (List ℕ)) (s : State) : Type 0 where
  pub sized : length s.visits ≡ length graph
  pub waits : (k : ℕ) → k < length s.waiting → visit_of s.visits (slice_index s.waiting k) ≡ Open k
  pub open_below : (a k : ℕ) → visit_of s.visits a ≡ Open k → k < length s.waiting
  pub open_at : (a k : ℕ) → visit_of s.visits a ≡ Open k → slice_index s.waiting k ≡ a
  pub ordered : (j k : ℕ) → j ≤ k → k < length s.waiting → Reaches graph (slice_index s.waiting j) (slice_index s.waiting k)
  pub closed : (a b m : ℕ) → visit_of s.visits a ≡ Closed m → HasEdge graph a b → IsClosedWithin s.visits b m
  pub counted : (a m : ℕ) → visit_of s.visits a ≡ Closed m → m < s.count
  pub one : (a b m : ℕ) → visit_of s.visits a ≡ Closed m → visit_of s.visits b ≡ Closed m → Reaches graph a b
  pub path : IsPath graph s.visits s.waiting (length s.waiting) s.path
  pub room : s.count + length s.path + unseen s.visits ≤ length graph

-- how many edges of the frames are left, and how many frames
abbrev pub edges_left : List (List ℕ) → List Frame → ℕ
edges_left graph [] = 0
edges_left graph (f ∷ path) = suc (length (targets_of graph f.node) - f.next + edges_left graph path)

-- how much there is to do at most
abbrev pub work : List (List ℕ) → State → ℕ
work graph s = unseen s.visits * (2 + sum_by length graph) + edges_left graph s.path

-- what was reached stays reached
abbrev pub KeepsSeen : List Visit → List Visit → Type 0
KeepsSeen old new = (a : ℕ) → visit_of old a ≢ Unseen → visit_of new a ≢ Unseen

-- a step of the search: what it knows stays right, and there is less to do
pub record IsStep (graph : List (List ℕ)) (old new : State) : Type 0 where
  pub state : IsState graph new
  pub less : work graph new < work graph old
  pub seen : KeepsSeen old.visits new.visits

-- each node was reached
abbrev pub AreAllSeen : List (List ℕ) → List Visit → Type 0
AreAllSeen graph visits = (a : ℕ) → a < length graph → visit_of visits a ≢ Unseen
