-- Each step leaves less to do, and what was reached stays reached.
use Rattle.std.proofs.Common.{◌≡◌, ◌≢◌, ◌∙◌, sym, refl, subst, ℕ, ◌+◌, ◌*◌, ◌<◌, ◌≤◌, List, [], ◌∷◌, length, set, drop, arith, inl, inr, get_or-set_same, get_or-set_other}
use Rattle.std.specs.List.{sum_by}
use Rattle.std.proofs.lemmas.List.Sums.{get_or-le-sum_by}
use Rattle.std.proofs.lemmas.Bool.{cases_eq}
use Rattle.xs_graph.specs.declared.frame.Frame.{Frame}
use Rattle.xs_graph.specs.declared.visit.Visit.{Visit}
use Rattle.xs_graph.specs.declared.visit.Visit.TheVariants.{Unseen, Open, Closed}
use Rattle.xs_graph.specs.Graphs.{targets_of}
use Rattle.xs_graph.specs.States.{State, visit_of, unseen, edges_left, work, passed, lower_first, with_frame, opened, merged, closed_from, close_all, KeepsSeen}
use Rattle.xs_graph.proofs.Visits.{unseen_set, unseen_close, closed_seen, visited_within}

-- a number times one more
times_more : (u v t : ℕ) → u + 1 ≡ v → v * t ≡ u * t + t
times_more u v t e = rw (← e) (omega arith)

times_less : (u v t : ℕ) → u ≤ v → u * t ≤ v * t
times_less u v t l = grind arith

edges_lower : (graph : List (List ℕ)) (place : ℕ) (path : List Frame) → edges_left graph (lower_first place path) ≡ edges_left graph path
edges_lower graph place [] = refl
edges_lower graph place (f ∷ path) = refl

pub less_passed : (graph : List (List ℕ)) (s : State) (f : Frame) → f.next < length (targets_of graph f.node) → work graph (with_frame (passed f) s) < work graph (with_frame f s)
less_passed graph s f l = omega arith

pub less_opened : (graph : List (List ℕ)) (s : State) (f : Frame) (b : ℕ) → f.next < length (targets_of graph f.node) → b < length graph → b < length s.visits → visit_of s.visits b ≡ Unseen → work graph (opened b (with_frame (passed f) s)) < work graph (with_frame f s)
less_opened graph s f b l node within e =
    let fewer : unseen (set s.visits b (Open (length s.waiting))) + 1 ≡ unseen s.visits = unseen_set s.visits b (Open (length s.waiting)) within e refl in
    let more = times_more (unseen (set s.visits b (Open (length s.waiting)))) (unseen s.visits) (2 + sum_by length graph) fewer in
    omega (arith, more, get_or-le-sum_by length graph b [] node)

pub less_merged : (graph : List (List ℕ)) (s : State) (f : Frame) → work graph (merged f.least s) < work graph (with_frame f s)
less_merged graph s f = omega (arith, edges_lower graph f.least s.path)

pub less_closed : (graph : List (List ℕ)) (s : State) (f : Frame) (place : ℕ) → work graph (closed_from place s) < work graph (with_frame f s)
less_closed graph s f place =
    let fewer = unseen_close s.count s.visits (drop place s.waiting) in
    omega (arith, times_less (unseen (close_all s.count s.visits (drop place s.waiting))) (unseen s.visits) (2 + sum_by length graph) fewer)

pub seen_same : (visits : List Visit) → KeepsSeen visits visits
seen_same visits a ne = ne

pub seen_then : (a b c : List Visit) → KeepsSeen a b → KeepsSeen b c → KeepsSeen a c
seen_then a b c h k x ne = k x (h x ne)

pub seen_set : (visits : List Visit) (b : ℕ) (m : Visit) → m ≢ Unseen → KeepsSeen visits (set visits b m)
seen_set visits b m seen a ne = elim (cases_eq a b) [
  | inl same ↦ subst (λ (x : ℕ). visit_of (set visits x m) a ≢ Unseen) same (λ e. seen (sym (get_or-set_same visits a m Unseen (visited_within visits a ne)) ∙ e))
  | inr other ↦ λ e. ne (sym (get_or-set_other visits b a m Unseen other) ∙ e)
]

pub seen_close : (number : ℕ) (visits : List Visit) (nodes : List ℕ) → KeepsSeen visits (close_all number visits nodes)
seen_close number visits [] a ne = ne
seen_close number visits (b ∷ nodes) a ne = seen_close number (set visits b (Closed number)) nodes a (seen_set visits b (Closed number) (λ e. closed_seen (Closed number) number refl e) a ne)
