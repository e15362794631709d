-- A frame whose node reaches an earlier one is merged into the frame around it.
use Rattle.std.proofs.Common.{◌≡◌, refl, ℕ, ◌<◌, ◌≤◌, min, List, [], ◌∷◌, length, get_or, arith, inl, inr}
use Rattle.std.proofs.lemmas.Bool.{cases_lt}
use Rattle.xs_graph.specs.declared.frame.Frame.{Frame}
use Rattle.xs_graph.specs.declared.visit.Visit.{Visit}
use Rattle.xs_graph.specs.Graphs.{targets_of, Reaches}
use Rattle.xs_graph.specs.States.{State, visit_of, IsFrame, IsPath, IsState, lower, lower_first, with_frame, merged}
use Rattle.xs_graph.proofs.Reaching.{reaches_then, reaches_from, reaches_to, reaches_min}
use Rattle.xs_graph.proofs.Visits.{past_lower}
use Rattle.xs_graph.proofs.Framing.{all_finished}
use Rattle.xs_graph.proofs.Opening.{state_path}

-- an earlier node that waits reaches each later one
abbrev IsOrdered : List (List ℕ) → List ℕ → Type 0
IsOrdered graph w = (j k : ℕ) → j ≤ k → k < length w → Reaches graph (get_or w j 0) (get_or w k 0)

-- the least place of the inner frame is reached from the outer one, and reaches it
reaches_down : (graph : List (List ℕ)) (visits : List Visit) (w : List ℕ) (f g : Frame) → IsOrdered graph w → IsFrame graph visits w (length w) f → IsFrame graph visits w f.place g → Reaches graph g.node (get_or w f.least 0)
reaches_down graph visits w f g ordered inner outer =
    let down : Reaches graph (get_or w g.place 0) (get_or w f.place 0) = ordered g.place f.place (omega (arith, outer.below)) inner.below in
    reaches_then (reaches_from outer.here (reaches_to inner.here down)) inner.falls

reaches_up : (graph : List (List ℕ)) (visits : List Visit) (w : List ℕ) (f g : Frame) → f.least < f.place → IsOrdered graph w → IsFrame graph visits w (length w) f → IsFrame graph visits w f.place g → Reaches graph (get_or w f.least 0) g.node
reaches_up graph visits w f g l ordered inner outer = elim (cases_lt f.least g.place) [
  | inl below ↦ reaches_to outer.here (ordered f.least g.place (omega arith) (omega (arith, outer.below, inner.below)))
  | inr above ↦ outer.gathers f.least above l
]

merged_frame : (graph : List (List ℕ)) (visits : List Visit) (w : List ℕ) (f g : Frame) → length (targets_of graph f.node) ≤ f.next → f.least < f.place → IsOrdered graph w → IsFrame graph visits w (length w) f → IsFrame graph visits w f.place g → IsFrame graph visits w (length w) (lower f.least g)
merged_frame graph visits w f g done l ordered inner outer =
    let low : min g.least f.least ≤ g.least = omega arith in
    let low_too : min g.least f.least ≤ f.least = omega arith in
    record {
      below = omega (arith, outer.below, inner.below);
      here = outer.here;
      least = omega (arith, outer.least, low);
      falls = reaches_min graph w g.node g.least f.least outer.falls (reaches_down graph visits w f g ordered inner outer);
      gathers = λ k from to. elim (cases_lt k f.place) [
        | inl below ↦ outer.gathers k from below
        | inr above ↦ reaches_then (inner.gathers k above to) (reaches_then inner.falls (reaches_up graph visits w f g l ordered inner outer))
      ];
      walked = λ k m n. past_lower (min g.least f.least) g.least (visit_of visits (get_or (targets_of graph g.node) k 0)) low (outer.walked k m n);
      finished = λ k b from to e. elim (cases_lt k f.place) [
        | inl below ↦ past_lower (min g.least f.least) g.least (visit_of visits b) low (outer.finished k b from below e)
        | inr above ↦ past_lower (min g.least f.least) f.least (visit_of visits b) low_too (all_finished graph visits w (length w) f k b done inner above to e)
      ];
    }

merged_path : (graph : List (List ℕ)) (visits : List Visit) (w : List ℕ) (f : Frame) (path : List Frame) → length (targets_of graph f.node) ≤ f.next → f.least < f.place → IsOrdered graph w → IsPath graph visits w (length w) (f ∷ path) → IsPath graph visits w (length w) (lower_first f.least path)
merged_path graph visits w f [] done l ordered h = absurd (omega (arith, h.1))
merged_path graph visits w f (g ∷ path) done l ordered h = (merged_frame graph visits w f g done l ordered h.0 h.1.0, h.1.1)

pub length_lower : (place : ℕ) (path : List Frame) → length (lower_first place path) ≡ length path
length_lower place [] = refl
length_lower place (f ∷ path) = refl

pub state_merged : (graph : List (List ℕ)) (s : State) (f : Frame) → IsState graph (with_frame f s) → length (targets_of graph f.node) ≤ f.next → f.least < f.place → IsState graph (merged f.least s)
state_merged graph s f h done l = state_path graph (with_frame f s) (lower_first f.least s.path) (omega (arith, length_lower f.least s.path)) (merged_path graph s.visits s.waiting f s.path done l h.ordered h.path) h
