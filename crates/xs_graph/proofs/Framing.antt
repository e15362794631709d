-- Laws of frames and of paths of them.
use Rattle.std.proofs.Common.{◌≡◌, ◌∙◌, sym, ap, subst, ℕ, ◌+◌, ◌<◌, ◌≤◌, min, List, [], ◌∷◌, length, get_or, arith, inl, inr}
use Rattle.std.proofs.lemmas.List.{get_or_default}
use Rattle.std.proofs.lemmas.Bool.{cases_lt}
use Rattle.xs_graph.specs.declared.frame.Frame.{Frame}
use Rattle.xs_graph.specs.declared.visit.Visit.{Visit}
use Rattle.xs_graph.specs.Graphs.{targets_of, HasEdge, Reaches}
use Rattle.xs_graph.specs.States.{visit_of, IsPast, IsFrame, IsPath, passed, lower}
use Rattle.xs_graph.proofs.Reaching.{reaches_from, reaches_to, reaches_min, edge_from}
use Rattle.xs_graph.proofs.Visits.{past_lower}

-- what was past a place is past it
abbrev pub KeepsPast : List Visit → List Visit → Type 0
KeepsPast old new = (least a : ℕ) → IsPast least (visit_of old a) → IsPast least (visit_of new a)

-- the nodes that wait up to a place are the same
abbrev pub AreSameBelow : ℕ → List ℕ → List ℕ → Type 0
AreSameBelow top old new = (k : ℕ) → k < top → get_or old k 0 ≡ get_or new k 0

pub frame_kept : (graph : List (List ℕ)) (old new : List Visit) (v w : List ℕ) (top : ℕ) (f : Frame) → KeepsPast old new → AreSameBelow top v w → IsFrame graph old v top f → IsFrame graph new w top f
frame_kept graph old new v w top f keeps same h = record {
  below = h.below;
  here = sym (same f.place h.below) ∙ h.here;
  least = h.least;
  falls = reaches_to (same f.least (omega (arith, h.least, h.below))) h.falls;
  gathers = λ k l m. reaches_from (same k m) (h.gathers k l m);
  walked = λ k l m. keeps f.least (get_or (targets_of graph f.node) k 0) (h.walked k l m);
  finished = λ k b l m e. keeps f.least b (h.finished k b l m (edge_from graph (get_or w k 0) (get_or v k 0) b (sym (same k m)) e));
}

pub path_kept : (graph : List (List ℕ)) (old new : List Visit) (v w : List ℕ) (top : ℕ) (path : List Frame) → KeepsPast old new → AreSameBelow top v w → IsPath graph old v top path → IsPath graph new w top path
path_kept graph old new v w top [] keeps same h = h
path_kept graph old new v w top (f ∷ path) keeps same h = (
  frame_kept graph old new v w top f keeps same h.0,
  path_kept graph old new v w f.place path keeps (λ k l. same k (omega (arith, h.0.below))) h.1,
)

-- an edge that leads to what is past the frame's least place is walked
pub frame_passed : (graph : List (List ℕ)) (visits : List Visit) (w : List ℕ) (top : ℕ) (f : Frame) → IsPast f.least (visit_of visits (get_or (targets_of graph f.node) f.next 0)) → IsFrame graph visits w top f → IsFrame graph visits w top (passed f)
frame_passed graph visits w top f past h = record { below = h.below; here = h.here; least = h.least; falls = h.falls; gathers = h.gathers; walked = walked; finished = h.finished }
  where
    walked : (k : ℕ) → k < f.next + 1 → k < length (targets_of graph f.node) → IsPast f.least (visit_of visits (get_or (targets_of graph f.node) k 0))
    walked k l m = elim (cases_lt k f.next) [
      | inl below ↦ h.walked k below m
      | inr above ↦
          let same : f.next ≡ k = omega arith in
          subst (λ (x : ℕ). IsPast f.least (visit_of visits (get_or (targets_of graph f.node) x 0))) same past
    ]

-- a place that the frame's node reaches may be its least one
pub frame_lower : (graph : List (List ℕ)) (visits : List Visit) (w : List ℕ) (top place : ℕ) (f : Frame) → Reaches graph f.node (get_or w place 0) → IsFrame graph visits w top f → IsFrame graph visits w top (lower place f)
frame_lower graph visits w top place f reaches h =
    let low : min f.least place ≤ f.least = omega arith in
    record {
      below = h.below;
      here = h.here;
      least = omega (arith, h.least, low);
      falls = reaches_min graph w f.node f.least place h.falls reaches;
      gathers = h.gathers;
      walked = λ k l m. past_lower (min f.least place) f.least (visit_of visits (get_or (targets_of graph f.node) k 0)) low (h.walked k l m);
      finished = λ k b l m e. past_lower (min f.least place) f.least (visit_of visits b) low (h.finished k b l m e);
    }

-- where all edges of a frame were walked, each leads to what is past its least place
pub all_walked : (graph : List (List ℕ)) (visits : List Visit) (w : List ℕ) (top : ℕ) (f : Frame) (b : ℕ) → length (targets_of graph f.node) ≤ f.next → IsFrame graph visits w top f → HasEdge graph f.node b → IsPast f.least (visit_of visits b)
all_walked graph visits w top f b done h e =
    let is : get_or (targets_of graph f.node) e.0 0 ≡ b = get_or_default (targets_of graph f.node) e.0 0 b e.1 ∙ e.2 in
    subst (λ (x : ℕ). IsPast f.least (visit_of visits x)) is (h.walked e.0 (omega (arith, e.1)) e.1)

-- then each edge of a node that waits from the frame's place on does
pub all_finished : (graph : List (List ℕ)) (visits : List Visit) (w : List ℕ) (top : ℕ) (f : Frame) (k b : ℕ) → length (targets_of graph f.node) ≤ f.next → IsFrame graph visits w top f → f.place ≤ k → k < top → HasEdge graph (get_or w k 0) b → IsPast f.least (visit_of visits b)
all_finished graph visits w top f k b done h l m e = elim (cases_lt f.place k) [
  | inl below ↦ h.finished k b below m e
  | inr above ↦
      let same : k ≡ f.place = omega arith in
      all_walked graph visits w top f b done h (edge_from graph (get_or w k 0) f.node b (ap (λ (x : ℕ). get_or w x 0) same ∙ h.here) e)
]
