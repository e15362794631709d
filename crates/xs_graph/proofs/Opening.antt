-- A node that was not reached is opened, and the edges of frames are walked.
use Rattle.std.proofs.Common.{◌≡◌, ◌≢◌, ◌∙◌, sym, ap, refl, subst, ℕ, ◌+◌, ◌<◌, ◌≤◌, min, List, [], ◌∷◌, ◌++◌, length, get_or, set, arith, ◌⊎◌, inl, inr, get_or-set_same, get_or-set_other}
use Rattle.std.proofs.lemmas.List.{length-set, length_push, get_or_append_left, get_or_push, get_or_default}
use Rattle.std.proofs.lemmas.Bool.{cases_eq, cases_lt}
use Rattle.xs_graph.specs.declared.frame.Frame.{Frame}
use Rattle.xs_graph.specs.declared.visit.Visit.{Visit}
use Rattle.xs_graph.specs.declared.visit.Visit.TheVariants.{Unseen, Open, Closed}
use Rattle.xs_graph.specs.Graphs.{targets_of, HasEdge, Reaches}
use Rattle.xs_graph.specs.States.{State, visit_of, IsFrame, IsPath, IsState, passed, lower, with_frame, with_path, opened}
use Rattle.xs_graph.proofs.Reaching.{reaches_then, reaches_from, reaches_same, reaches_edge}
use Rattle.xs_graph.proofs.Visits.{open_seen, closed_seen, open_closed, open_same, past_open, past_closed, past_same, past_seen, unseen_set}
use Rattle.xs_graph.proofs.Framing.{KeepsPast, AreSameBelow, path_kept, frame_passed, frame_lower}

-- a node that was reached is another one than a node that was not
apart : (visits : List Visit) (a b : ℕ) → visit_of visits a ≡ Unseen → visit_of visits b ≢ Unseen → b ≢ a
apart visits a b e ne same = ne (ap (visit_of visits) same ∙ e)

-- the visits of the other nodes are as they were
kept_visit : (visits : List Visit) (a n b : ℕ) → visit_of visits a ≡ Unseen → visit_of visits b ≢ Unseen → visit_of (set visits a (Open n)) b ≡ visit_of visits b
kept_visit visits a n b e ne = get_or-set_other visits a b (Open n) Unseen (apart visits a b e ne)

-- a node that is open now waits at the new place, or was open
open_before : (visits : List Visit) (a n b k : ℕ) → a < length visits → visit_of (set visits a (Open n)) b ≡ Open k → ((b ≡ a) × (k ≡ n)) ⊎ (visit_of visits b ≡ Open k)
open_before visits a n b k l e = elim (cases_eq b a) [
  | inl same ↦
      let now : visit_of (set visits a (Open n)) b ≡ Open n = ap (visit_of (set visits a (Open n))) same ∙ get_or-set_same visits a (Open n) Unseen l in
      inl (same, open_same (visit_of (set visits a (Open n)) b) k n e now)
  | inr ne ↦ inr (sym (get_or-set_other visits a b (Open n) Unseen ne) ∙ e)
]

-- a node that is closed now was closed
closed_before : (visits : List Visit) (a n b m : ℕ) → a < length visits → visit_of (set visits a (Open n)) b ≡ Closed m → visit_of visits b ≡ Closed m
closed_before visits a n b m l e = elim (cases_eq b a) [
  | inl same ↦
      let now : visit_of (set visits a (Open n)) b ≡ Open n = ap (visit_of (set visits a (Open n))) same ∙ get_or-set_same visits a (Open n) Unseen l in
      absurd (open_closed (visit_of (set visits a (Open n)) b) n m now e)
  | inr ne ↦ sym (get_or-set_other visits a b (Open n) Unseen ne) ∙ e
]

pub opened_past : (visits : List Visit) (a n : ℕ) → visit_of visits a ≡ Unseen → KeepsPast visits (set visits a (Open n))
opened_past visits a n e least b h = past_same least (visit_of visits b) (visit_of (set visits a (Open n)) b) (sym (kept_visit visits a n b e (past_seen least (visit_of visits b) h))) h

pub opened_below : (w : List ℕ) (a : ℕ) → AreSameBelow (length w) w (w ++ a ∷ [])
opened_below w a k l = sym (get_or_append_left w (a ∷ []) 0 k l)

-- the frame of a node that was opened
opened_frame : (graph : List (List ℕ)) (visits : List Visit) (w : List ℕ) (a : ℕ) → IsFrame graph visits (w ++ a ∷ []) (length (w ++ a ∷ [])) (record { node = a; place = length w; least = length w; next = 0 })
opened_frame graph visits w a =
    let here : get_or (w ++ a ∷ []) (length w) 0 ≡ a = get_or_push w a 0 (length w) refl in
    let more = length_push w a in
    record {
      below = omega (arith, more);
      here = here;
      least = omega arith;
      falls = reaches_same graph a (get_or (w ++ a ∷ []) (length w) 0) (sym here);
      gathers = λ k l m. let same : k ≡ length w = omega (arith, more) in reaches_same graph (get_or (w ++ a ∷ []) k 0) a (ap (λ (x : ℕ). get_or (w ++ a ∷ []) x 0) same ∙ here);
      walked = λ k l m. absurd (omega arith);
      finished = λ k b l m e. absurd (omega (arith, more));
    }

pub opened_state : (graph : List (List ℕ)) (s : State) (a : ℕ) → IsState graph s → a < length graph → visit_of s.visits a ≡ Unseen → ((k : ℕ) → k < length s.waiting → Reaches graph (get_or s.waiting k 0) a) → IsState graph (opened a s)
opened_state graph s a h l e reaches =
    let n : ℕ = length s.waiting in
    let w : List ℕ = s.waiting ++ a ∷ [] in
    let visits : List Visit = set s.visits a (Open n) in
    let within : a < length s.visits = omega (arith, h.sized) in
    let more : length w ≡ n + 1 = length_push s.waiting a in
    let new : get_or w n 0 ≡ a = get_or_push s.waiting a 0 n refl in
    let old : (k : ℕ) → k < n → get_or w k 0 ≡ get_or s.waiting k 0 = λ k m. get_or_append_left s.waiting (a ∷ []) 0 k m in
    record {
      sized = length-set s.visits a (Open n) ∙ h.sized;
      waits = λ k m. elim (cases_lt k n) [
        | inl below ↦
            let was = h.waits k below in
            ap (visit_of visits) (old k below) ∙ kept_visit s.visits a n (get_or s.waiting k 0) e (open_seen (visit_of s.visits (get_or s.waiting k 0)) k was) ∙ was
        | inr above ↦
            let same : k ≡ n = omega (arith, more) in
            ap (visit_of visits) (ap (λ (x : ℕ). get_or w x 0) same ∙ new) ∙ get_or-set_same s.visits a (Open n) Unseen within ∙ ap Open (sym same)
      ];
      open_below = λ b k is. elim (open_before s.visits a n b k within is) [
        | inl now ↦ omega (arith, now.1, more)
        | inr was ↦ omega (arith, h.open_below b k was, more)
      ];
      open_at = λ b k is. elim (open_before s.visits a n b k within is) [
        | inl now ↦ ap (λ (x : ℕ). get_or w x 0) now.1 ∙ new ∙ sym now.0
        | inr was ↦ old k (h.open_below b k was) ∙ h.open_at b k was
      ];
      ordered = λ j k m below. elim (cases_lt k n) [
        | inl under ↦ reaches_from (sym (old j (omega arith))) (subst (λ (x : ℕ). Reaches graph (get_or s.waiting j 0) x) (sym (old k under)) (h.ordered j k m under))
        | inr over ↦
            let same : k ≡ n = omega (arith, more) in
            let last : a ≡ get_or w k 0 = sym (ap (λ (x : ℕ). get_or w x 0) same ∙ new) in
            subst (λ (x : ℕ). Reaches graph (get_or w j 0) x) last (elim (cases_lt j n) [
              | inl under ↦ reaches_from (sym (old j under)) (reaches j under)
              | inr beyond ↦
                  let here : j ≡ n = omega (arith, more) in
                  reaches_same graph (get_or w j 0) a (ap (λ (x : ℕ). get_or w x 0) here ∙ new)
            ])
      ];
      closed = λ b c m is edge.
          let was = h.closed b c m (closed_before s.visits a n b m within is) edge in
          record {
            number = was.number;
            is = kept_visit s.visits a n c e (closed_seen (visit_of s.visits c) was.number was.is) ∙ was.is;
            within = was.within;
          };
      counted = λ b m is. h.counted b m (closed_before s.visits a n b m within is);
      one = λ b c m is too. h.one b c m (closed_before s.visits a n b m within is) (closed_before s.visits a n c m within too);
      path = (opened_frame graph visits s.waiting a, path_kept graph s.visits visits s.waiting w n s.path (opened_past s.visits a n e) (opened_below s.waiting a) h.path);
      room = omega (arith, h.room, unseen_set s.visits a (Open n) within e refl);
    }

-- each node that waits reaches the innermost frame's node
pub all_reach : (graph : List (List ℕ)) (s : State) (f : Frame) → IsState graph (with_frame f s) → (k : ℕ) → k < length s.waiting → Reaches graph (get_or s.waiting k 0) f.node
all_reach graph s f h k l = elim (cases_lt k f.place) [
  | inl below ↦ subst (λ (x : ℕ). Reaches graph (get_or s.waiting k 0) x) h.path.0.here (h.ordered k f.place (omega arith) h.path.0.below)
  | inr above ↦ h.path.0.gathers k above l
]

-- other frames in place of all, no more of them
pub state_path : (graph : List (List ℕ)) (s : State) (path : List Frame) → length path ≤ length s.path → IsPath graph s.visits s.waiting (length s.waiting) path → IsState graph s → IsState graph (with_path path s)
state_path graph s path fewer frames h =
    record { sized = h.sized; waits = h.waits; open_below = h.open_below; open_at = h.open_at; ordered = h.ordered; closed = h.closed; counted = h.counted; one = h.one; path = frames; room = omega (arith, h.room) }

-- another frame in place of the innermost one
pub state_with : (graph : List (List ℕ)) (s : State) (f g : Frame) → g.place ≡ f.place → IsFrame graph s.visits s.waiting (length s.waiting) g → IsState graph (with_frame f s) → IsState graph (with_frame g s)
state_with graph s f g e frame h = state_path graph (with_frame f s) (g ∷ s.path) (omega arith) (frame, subst (λ (x : ℕ). IsPath graph s.visits s.waiting x s.path) (sym e) h.path.1) h

-- the edge leads from the frame's node to its next target
pub next_edge : (graph : List (List ℕ)) (f : Frame) (b : ℕ) → f.next < length (targets_of graph f.node) → get_or (targets_of graph f.node) f.next 0 ≡ b → HasEdge graph f.node b
next_edge graph f b l e = (f.next, l, get_or_default (targets_of graph f.node) f.next b 0 l ∙ e)

-- the next edge leads to a closed node
pub state_closed : (graph : List (List ℕ)) (s : State) (f : Frame) (b m : ℕ) → IsState graph (with_frame f s) → get_or (targets_of graph f.node) f.next 0 ≡ b → visit_of s.visits b ≡ Closed m → IsState graph (with_frame (passed f) s)
state_closed graph s f b m h e is =
    let past = past_closed f.least m (visit_of s.visits (get_or (targets_of graph f.node) f.next 0)) (ap (visit_of s.visits) e ∙ is) in
    state_with graph s f (passed f) refl (frame_passed graph s.visits s.waiting (length s.waiting) f past h.path.0) h

-- the next edge leads to a node that waits
pub state_open : (graph : List (List ℕ)) (s : State) (f : Frame) (b k : ℕ) → IsState graph (with_frame f s) → f.next < length (targets_of graph f.node) → get_or (targets_of graph f.node) f.next 0 ≡ b → visit_of s.visits b ≡ Open k → IsState graph (with_frame (passed (lower k f)) s)
state_open graph s f b k h l e is =
    let n : ℕ = length s.waiting in
    let reaches : Reaches graph f.node (get_or s.waiting k 0) = subst (λ (x : ℕ). Reaches graph f.node x) (sym (h.open_at b k is)) (reaches_edge graph f.node b (next_edge graph f b l e)) in
    let frame = frame_lower graph s.visits s.waiting n k f reaches h.path.0 in
    let past = past_open (min f.least k) k (visit_of s.visits (get_or (targets_of graph f.node) f.next 0)) (ap (visit_of s.visits) e ∙ is) (omega arith) in
    state_with graph s f (passed (lower k f)) refl (frame_passed graph s.visits s.waiting n (lower k f) past frame) h

-- the next edge leads to a node that was not reached, which is opened
pub state_opened : (graph : List (List ℕ)) (s : State) (f : Frame) (b : ℕ) → IsState graph (with_frame f s) → f.next < length (targets_of graph f.node) → get_or (targets_of graph f.node) f.next 0 ≡ b → b < length graph → visit_of s.visits b ≡ Unseen → IsState graph (opened b (with_frame (passed f) s))
state_opened graph s f b h l e within is =
    let n : ℕ = length s.waiting in
    let visits : List Visit = set s.visits b (Open n) in
    let o = opened_state graph (with_frame f s) b h within is (λ k m. reaches_then (all_reach graph s f h k m) (reaches_edge graph f.node b (next_edge graph f b l e))) in
    let now : visit_of visits b ≡ Open n = get_or-set_same s.visits b (Open n) Unseen (omega (arith, h.sized)) in
    let past = past_open f.least n (visit_of visits (get_or (targets_of graph f.node) f.next 0)) (ap (visit_of visits) e ∙ now) (omega (arith, h.path.0.least, h.path.0.below)) in
    state_path graph (opened b (with_frame f s)) (record { node = b; place = n; least = n; next = 0 } ∷ (passed f ∷ s.path)) (omega arith) (o.path.0, (frame_passed graph visits (s.waiting ++ b ∷ []) n f past o.path.1.0, o.path.1.1)) o
