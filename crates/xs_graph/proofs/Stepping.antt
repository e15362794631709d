-- Each step of a search keeps what it knows, and leaves less to do.
use Rattle.std.proofs.Common.{◌≡◌, ◌∙◌, sym, ap, refl, subst, ℕ, ◌<◌, ◌≤◌, List, [], length, get_or, drop, Some, arith}
use Rattle.std.specs.List.{All, slice_get}
use Rattle.std.proofs.lemmas.List.{get_or_default}
use Rattle.std.proofs.lemmas.Option.{get_or_from_slice_get}
use Rattle.xs_graph.specs.declared.frame.Frame.{Frame}
use Rattle.xs_graph.specs.declared.visit.Visit.{Visit}
use Rattle.xs_graph.specs.declared.visit.Visit.TheVariants.{Unseen, Open, Closed}
use Rattle.xs_graph.specs.Graphs.{IsGraph, targets_of}
use Rattle.xs_graph.specs.States.{State, visit_of, IsPath, IsState, IsStep, passed, with_frame, opened, merged, closed_from, followed, followed_by}
use Rattle.xs_graph.proofs.Visits.{open_seen, visited_within}
use Rattle.xs_graph.proofs.Opening.{opened_state, state_closed, state_open, state_opened}
use Rattle.xs_graph.proofs.Merging.{state_merged}
use Rattle.xs_graph.proofs.Closing.{state_closed_from}
use Rattle.xs_graph.proofs.Working.{less_passed, less_opened, less_merged, less_closed, seen_same, seen_set, seen_close}

-- each node that waits has a visit
pub waiting_visited : (graph : List (List ℕ)) (s : State) (f : Frame) → IsState graph (with_frame f s) → All (λ a. a < length s.visits) s.waiting
waiting_visited graph s f h k d l =
    let there : get_or s.waiting k d ≡ get_or s.waiting k 0 = get_or_default s.waiting k d 0 l in
    subst (λ (x : ℕ). x < length s.visits) (sym there) (visited_within s.visits (get_or s.waiting k 0) (open_seen (visit_of s.visits (get_or s.waiting k 0)) k (h.waits k l)))

-- the node of the innermost frame has a visit
pub frame_visited : (graph : List (List ℕ)) (s : State) (f : Frame) → IsState graph (with_frame f s) → f.node < length graph
frame_visited graph s f h =
    let within = waiting_visited graph s f h f.place 0 h.path.0.below in
    omega (arith, within, h.path.0.here, h.sized)

step_by : (graph : List (List ℕ)) (s : State) (f : Frame) (b : ℕ) (m : Visit) → IsState graph (with_frame f s) → f.next < length (targets_of graph f.node) → get_or (targets_of graph f.node) f.next 0 ≡ b → b < length graph → visit_of s.visits b ≡ m → IsStep graph (with_frame f s) (followed_by (passed f) b s m)
step_by graph s f b Unseen h l e within is = record {
  state = state_opened graph s f b h l e within is;
  less = less_opened graph s f b l within (omega (arith, h.sized)) is;
  seen = seen_set s.visits b (Open (length s.waiting)) (open_seen (Open (length s.waiting)) (length s.waiting) refl);
}
step_by graph s f b (Open k) h l e within is = record {
  state = state_open graph s f b k h l e is;
  less = less_passed graph s f l;
  seen = seen_same s.visits;
}
step_by graph s f b (Closed m) h l e within is = record {
  state = state_closed graph s f b m h e is;
  less = less_passed graph s f l;
  seen = seen_same s.visits;
}

pub step_followed : (graph : List (List ℕ)) (s : State) (f : Frame) (targets : List ℕ) (b : ℕ) → IsGraph graph → IsState graph (with_frame f s) → slice_get graph f.node ≡ Some targets → f.next < length targets → slice_get targets f.next ≡ Some b → IsStep graph (with_frame f s) (followed (passed f) b s)
step_followed graph s f targets b sound h row l there =
    let same : targets_of graph f.node ≡ targets = get_or_from_slice_get graph f.node targets [] row in
    let less : f.next < length (targets_of graph f.node) = omega (arith, ap length same) in
    let is : get_or (targets_of graph f.node) f.next 0 ≡ b = ap (λ (x : List ℕ). get_or x f.next 0) same ∙ get_or_from_slice_get targets f.next b 0 there in
    let below = sound f.node f.next 0 less in
    step_by graph s f b (visit_of s.visits b) h less is (omega (arith, below, is)) refl

all_passed : (graph : List (List ℕ)) (f : Frame) (targets : List ℕ) → slice_get graph f.node ≡ Some targets → length targets ≤ f.next → length (targets_of graph f.node) ≤ f.next
all_passed graph f targets row l = omega (arith, ap length (get_or_from_slice_get graph f.node targets [] row))

pub step_merged : (graph : List (List ℕ)) (s : State) (f : Frame) (targets : List ℕ) → IsState graph (with_frame f s) → slice_get graph f.node ≡ Some targets → length targets ≤ f.next → f.least < f.place → IsStep graph (with_frame f s) (merged f.least s)
step_merged graph s f targets h row done l = record {
  state = state_merged graph s f h (all_passed graph f targets row done) l;
  less = less_merged graph s f;
  seen = seen_same s.visits;
}

pub step_closed : (graph : List (List ℕ)) (s : State) (f : Frame) (targets : List ℕ) → IsState graph (with_frame f s) → slice_get graph f.node ≡ Some targets → length targets ≤ f.next → f.place ≤ f.least → IsStep graph (with_frame f s) (closed_from f.place s)
step_closed graph s f targets h row done l = record {
  state = state_closed_from graph s f h (all_passed graph f targets row done) l;
  less = less_closed graph s f f.place;
  seen = seen_close s.count s.visits (drop f.place s.waiting);
}

-- where no edges are walked no node waits
pub idle_waiting : (graph : List (List ℕ)) (s : State) → IsState graph s → s.path ≡ [] → length s.waiting ≡ 0
idle_waiting graph s h e = subst (λ (x : List Frame). IsPath graph s.visits s.waiting (length s.waiting) x) e h.path

-- where no node waits any node that was not reached may be opened
pub idle_opened : (graph : List (List ℕ)) (s : State) (a : ℕ) → IsState graph s → s.path ≡ [] → a < length graph → visit_of s.visits a ≡ Unseen → IsState graph (opened a s)
idle_opened graph s a h e l is =
    let none = idle_waiting graph s h e in
    opened_state graph s a h l is (λ k m. absurd (omega (arith, none)))
