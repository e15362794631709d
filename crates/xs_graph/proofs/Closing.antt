-- The nodes from the innermost frame's place on are closed, where the frame reaches no earlier one.
use Rattle.std.proofs.Common.{◌≡◌, ◌∙◌, sym, ap, subst, ℕ, ◌+◌, ◌-◌, ◌<◌, ◌≤◌, List, length, get_or, take, drop, arith, ◌⊎◌, inl, inr, length-drop, get_or-take}
use Rattle.std.proofs.lemmas.List.{length-take-le, get_or-drop}
use Rattle.std.proofs.lemmas.Bool.{cases_lt}
use Rattle.xs_graph.specs.declared.frame.Frame.{Frame}
use Rattle.xs_graph.specs.declared.visit.Visit.{Visit}
use Rattle.xs_graph.specs.declared.visit.Visit.TheVariants.{Open, Closed}
use Rattle.xs_graph.specs.Graphs.{targets_of, HasEdge, Reaches}
use Rattle.xs_graph.specs.States.{State, visit_of, IsPast, IsPath, IsState, IsClosedWithin, close_all, closed_from, with_frame}
use Rattle.xs_graph.proofs.Reaching.{reaches_then, reaches_from, reaches_to, edge_from}
use Rattle.xs_graph.proofs.Visits.{visit_cases, open_seen, open_closed, open_same, closed_same, visited_within, past_same, past_seen, past_at, past_closed, close_in, close_out, length_close, unseen_close}
use Rattle.xs_graph.proofs.Framing.{KeepsPast, path_kept, all_finished}

-- the visits when the nodes from the place on are closed
abbrev after : ℕ → State → List Visit
after place s = close_all s.count s.visits (drop place s.waiting)

-- the node waits at the place or after it, and is closed now
record IsIn (place : ℕ) (s : State) (a : ℕ) : Type 0 where
  at : ℕ
  was : visit_of s.visits a ≡ Open at
  past : place ≤ at
  now : visit_of (after place s) a ≡ Closed s.count

-- the node does not wait there, and its visit is as it was
record IsOut (place : ℕ) (s : State) (a : ℕ) : Type 0 where
  below : (k : ℕ) → visit_of s.visits a ≡ Open k → k < place
  same : visit_of (after place s) a ≡ visit_of s.visits a

-- each node that waits does so where its visit says
abbrev AreWaiting : State → Type 0
AreWaiting s = (k : ℕ) → k < length s.waiting → visit_of s.visits (get_or s.waiting k 0) ≡ Open k

is_out : (place : ℕ) (s : State) (a : ℕ) → AreWaiting s → ((k : ℕ) → visit_of s.visits a ≡ Open k → k < place) → IsOut place s a
is_out place s a waits below = record {
  below = below;
  same = close_out s.count s.visits (drop place s.waiting) a (λ k l e.
      let there : get_or s.waiting (place + k) 0 ≡ a = sym (get_or-drop place s.waiting k 0) ∙ e in
      let size = length-drop place s.waiting in
      let was : visit_of s.visits a ≡ Open (place + k) = sym (ap (visit_of s.visits) there) ∙ waits (place + k) (omega (arith, size)) in
      let low = below (place + k) was in
      omega (arith, low));
}

is_in : (graph : List (List ℕ)) (place : ℕ) (s : State) (a k : ℕ) → (k < length s.waiting) → get_or s.waiting k 0 ≡ a → visit_of s.visits a ≡ Open k → place ≤ k → IsIn place s a
is_in graph place s a k l there e m =
    let size = length-drop place s.waiting in
    let same : place + (k - place) ≡ k = omega arith in
    record {
      at = k;
      was = e;
      past = m;
      now = close_in s.count s.visits (drop place s.waiting) a (k - place) (visited_within s.visits a (open_seen (visit_of s.visits a) k e)) (omega (arith, size)) (get_or-drop place s.waiting (k - place) 0 ∙ ap (λ (x : ℕ). get_or s.waiting x 0) same ∙ there);
    }

in_or_out : (graph : List (List ℕ)) (s : State) (f : Frame) (a : ℕ) → IsState graph (with_frame f s) → IsIn f.place s a ⊎ IsOut f.place s a
in_or_out graph s f a h = elim (visit_cases (visit_of s.visits a)) [
  | inl e ↦ inr (is_out f.place s a h.waits (λ k o. absurd (open_seen (visit_of s.visits a) k o e)))
  | inr (inl (q, e)) ↦ elim (cases_lt q f.place) [
    | inl below ↦ inr (is_out f.place s a h.waits (λ k o. let same = open_same (visit_of s.visits a) k q o e in omega (arith, same)))
    | inr above ↦ inl (is_in graph f.place s a q (h.open_below a q e) (h.open_at a q e) e above)
  ]
  | inr (inr (m, e)) ↦ inr (is_out f.place s a h.waits (λ k o. absurd (open_closed (visit_of s.visits a) k m o e)))
]

-- a node that is open now was open, before the place
open_now : (graph : List (List ℕ)) (s : State) (f : Frame) (a k : ℕ) → IsState graph (with_frame f s) → visit_of (after f.place s) a ≡ Open k → (visit_of s.visits a ≡ Open k) × (k < f.place)
open_now graph s f a k h e = elim (in_or_out graph s f a h) [
  | inl i ↦ absurd (open_closed (visit_of (after f.place s) a) k s.count e i.now)
  | inr o ↦ let was : visit_of s.visits a ≡ Open k = sym o.same ∙ e in (was, o.below k was)
]

after_past : (graph : List (List ℕ)) (s : State) (f : Frame) → IsState graph (with_frame f s) → KeepsPast s.visits (after f.place s)
after_past graph s f h least a b = elim (in_or_out graph s f a h) [
  | inl i ↦ past_closed least s.count (visit_of (after f.place s) a) i.now
  | inr o ↦ past_same least (visit_of s.visits a) (visit_of (after f.place s) a) (sym o.same) b
]

-- what is past the place is closed now, with a number up to the new one
closed_now : (graph : List (List ℕ)) (s : State) (f : Frame) (b : ℕ) → IsState graph (with_frame f s) → IsPast f.place (visit_of s.visits b) → IsClosedWithin (after f.place s) b s.count
closed_now graph s f b h past = elim (in_or_out graph s f b h) [
  | inl i ↦ record { number = s.count; is = i.now; within = omega arith }
  | inr o ↦ elim (visit_cases (visit_of s.visits b)) [
    | inl e ↦ absurd (past_seen f.place (visit_of s.visits b) past e)
    | inr (inl (q, e)) ↦
        let low = o.below q e in
        let high = past_at f.place q (visit_of s.visits b) e past in
        absurd (omega (arith, low, high))
    | inr (inr (m, e)) ↦
        let less = h.counted b m e in
        record { number = m; is = o.same ∙ e; within = omega (arith, less) }
  ]
]

-- an edge from a component, old or new, leads to a component of no greater number
edge_closed : (graph : List (List ℕ)) (s : State) (f : Frame) (a b m : ℕ) → IsState graph (with_frame f s) → length (targets_of graph f.node) ≤ f.next → f.place ≤ f.least → visit_of (after f.place s) a ≡ Closed m → HasEdge graph a b → IsClosedWithin (after f.place s) b m
edge_closed graph s f a b m h done least e edge = elim (in_or_out graph s f a h) [
  | inl i ↦
      let same : s.count ≡ m = closed_same (visit_of (after f.place s) a) s.count m i.now e in
      let there : get_or s.waiting i.at 0 ≡ a = h.open_at a i.at i.was in
      let past = all_finished graph s.visits s.waiting (length s.waiting) f i.at b done h.path.0 i.past (h.open_below a i.at i.was) (edge_from graph a (get_or s.waiting i.at 0) b (sym there) edge) in
      let level : f.least ≡ f.place = omega (arith, h.path.0.least) in
      subst (λ (x : ℕ). IsClosedWithin (after f.place s) b x) same (closed_now graph s f b h (subst (λ (x : ℕ). IsPast x (visit_of s.visits b)) level past))
  | inr o ↦
      let was = h.closed a b m (sym o.same ∙ e) edge in
      elim (in_or_out graph s f b h) [
        | inl j ↦ absurd (open_closed (visit_of s.visits b) j.at was.number j.was was.is)
        | inr p ↦ record { number = was.number; is = p.same ∙ was.is; within = was.within }
      ]
]

-- the nodes of the new component reach each other
one_new : (graph : List (List ℕ)) (s : State) (f : Frame) (a b : ℕ) → IsState graph (with_frame f s) → IsIn f.place s a → IsIn f.place s b → Reaches graph a b
one_new graph s f a b h i j =
    let to : Reaches graph (get_or s.waiting i.at 0) f.node = h.path.0.gathers i.at i.past (h.open_below a i.at i.was) in
    let from : Reaches graph (get_or s.waiting f.place 0) (get_or s.waiting j.at 0) = h.ordered f.place j.at j.past (h.open_below b j.at j.was) in
    reaches_then (reaches_from (h.open_at a i.at i.was) to) (reaches_from h.path.0.here (reaches_to (h.open_at b j.at j.was) from))

one_closed : (graph : List (List ℕ)) (s : State) (f : Frame) (a b m : ℕ) → IsState graph (with_frame f s) → visit_of (after f.place s) a ≡ Closed m → visit_of (after f.place s) b ≡ Closed m → Reaches graph a b
one_closed graph s f a b m h e g = elim (in_or_out graph s f a h) [
  | inl i ↦
      let same = closed_same (visit_of (after f.place s) a) s.count m i.now e in
      elim (in_or_out graph s f b h) [
        | inl j ↦ one_new graph s f a b h i j
        | inr p ↦ let less = h.counted b m (sym p.same ∙ g) in absurd (omega (arith, same, less))
      ]
  | inr o ↦
      let less = h.counted a m (sym o.same ∙ e) in
      elim (in_or_out graph s f b h) [
        | inl j ↦ let same = closed_same (visit_of (after f.place s) b) s.count m j.now g in absurd (omega (arith, same, less))
        | inr p ↦ h.one a b m (sym o.same ∙ e) (sym p.same ∙ g)
      ]
]

counted_now : (graph : List (List ℕ)) (s : State) (f : Frame) (a m : ℕ) → IsState graph (with_frame f s) → visit_of (after f.place s) a ≡ Closed m → m < s.count + 1
counted_now graph s f a m h e = elim (in_or_out graph s f a h) [
  | inl i ↦ let same = closed_same (visit_of (after f.place s) a) s.count m i.now e in omega (arith, same)
  | inr o ↦ let less = h.counted a m (sym o.same ∙ e) in omega (arith, less)
]

pub state_closed_from : (graph : List (List ℕ)) (s : State) (f : Frame) → IsState graph (with_frame f s) → length (targets_of graph f.node) ≤ f.next → f.place ≤ f.least → IsState graph (closed_from f.place s)
state_closed_from graph s f h done least =
    let place : ℕ = f.place in
    let below : place < length s.waiting = h.path.0.below in
    let size : length (take place s.waiting) ≡ place = length-take-le place s.waiting (omega arith) in
    let old : (k : ℕ) → k < place → get_or (take place s.waiting) k 0 ≡ get_or s.waiting k 0 = λ k l. get_or-take place s.waiting k 0 l in
    record {
      sized = length_close s.count s.visits (drop place s.waiting) ∙ h.sized;
      waits = λ k l.
          let low : k < place = omega (arith, size) in
          let was = h.waits k (omega arith) in
          let out = is_out place s (get_or s.waiting k 0) h.waits (λ j o. let same = open_same (visit_of s.visits (get_or s.waiting k 0)) j k o was in omega (arith, same)) in
          ap (visit_of (after place s)) (old k low) ∙ out.same ∙ was;
      open_below = λ a k e. let was = open_now graph s f a k h e in omega (arith, was.1, size);
      open_at = λ a k e. let was = open_now graph s f a k h e in old k was.1 ∙ h.open_at a k was.0;
      ordered = λ j k l m.
          let low : k < place = omega (arith, size) in
          reaches_from (sym (old j (omega arith))) (reaches_to (sym (old k low)) (h.ordered j k l (omega arith)));
      closed = λ a b m e edge. edge_closed graph s f a b m h done least e edge;
      counted = λ a m e. counted_now graph s f a m h e;
      one = λ a b m e g. one_closed graph s f a b m h e g;
      path = subst (λ (x : ℕ). IsPath graph (after place s) (take place s.waiting) x s.path) (sym size) (path_kept graph s.visits (after place s) s.waiting (take place s.waiting) place s.path (after_past graph s f h) (λ k l. sym (old k l)) h.path.1);
      room = omega (arith, h.room, unseen_close s.count s.visits (drop place s.waiting));
    }
