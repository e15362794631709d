-- The visits of a search that has reached each node are its components.
use Rattle.std.proofs.Common.{◌≡◌, ◌≢◌, ◌∙◌, ap, refl, ℕ, zero, suc, ◌<◌, ◌≤◌, List, [], ◌∷◌, length, get_or, map, arith, inl, inr}
use Rattle.std.proofs.lemmas.List.{length-map, get_or_past}
use Rattle.std.proofs.lemmas.Bool.{cases_lt}
use Rattle.xs_graph.specs.declared.visit.Visit.{Visit}
use Rattle.xs_graph.specs.declared.visit.Visit.TheVariants.{Unseen, Closed}
use Rattle.xs_graph.specs.Graphs.{HasEdge, Reaches, stays, passes, AreComponents}
use Rattle.xs_graph.specs.States.{State, visit_of, number_of, IsState, AreAllSeen}
use Rattle.xs_graph.proofs.Visits.{visit_cases}
use Rattle.xs_graph.proofs.Stepping.{idle_waiting}

-- the number of a node is that of its visit
number_at : (visits : List Visit) (a : ℕ) → get_or (map number_of visits) a 0 ≡ number_of (visit_of visits a)
number_at [] a = refl
number_at (m ∷ visits) zero = refl
number_at (m ∷ visits) (suc a) = number_at visits a

number_is : (visits : List Visit) (a m : ℕ) → visit_of visits a ≡ Closed m → get_or (map number_of visits) a 0 ≡ m
number_is visits a m e = number_at visits a ∙ ap number_of e

-- an edge leads from a node
pub edge_within : (graph : List (List ℕ)) (a b : ℕ) → HasEdge graph a b → a < length graph
edge_within graph a b e = elim (cases_lt a (length graph)) [
  | inl l ↦ l
  | inr l ↦ absurd (omega (arith, e.1, ap length (get_or_past graph a [] l)))
]

-- where no node waits each node that was reached has a component
closed_at : (graph : List (List ℕ)) (s : State) (a : ℕ) → IsState graph s → length s.waiting ≡ 0 → visit_of s.visits a ≢ Unseen → (m : ℕ) × (visit_of s.visits a ≡ Closed m)
closed_at graph s a h none seen = elim (visit_cases (visit_of s.visits a)) [
  | inl e ↦ absurd (seen e)
  | inr (inl (k, e)) ↦ let below = h.open_below a k e in absurd (omega (arith, below, none))
  | inr (inr (m, e)) ↦ (m, e)
]

numbers_fall : (graph : List (List ℕ)) (s : State) (a b : ℕ) → IsState graph s → length s.waiting ≡ 0 → AreAllSeen graph s.visits → HasEdge graph a b → get_or (map number_of s.visits) b 0 ≤ get_or (map number_of s.visits) a 0
numbers_fall graph s a b h none seen e =
    let here = closed_at graph s a h none (seen a (edge_within graph a b e)) in
    let there = h.closed a b here.0 here.1 e in
    omega (arith, number_is s.visits a here.0 here.1, number_is s.visits b there.number there.is, there.within)

-- so they fall along what is reached
pub fall_along : {graph : List (List ℕ)} {a b : ℕ} (numbers : List ℕ) → ((x y : ℕ) → HasEdge graph x y → get_or numbers y 0 ≤ get_or numbers x 0) → Reaches graph a b → get_or numbers b 0 ≤ get_or numbers a 0
fall_along numbers falls stays = omega arith
fall_along {graph} {a} {b} numbers falls (passes {b = c} e r) =
    let first = falls a c e in
    let rest = fall_along numbers falls r in
    omega (arith, first, rest)

pub components_found : (graph : List (List ℕ)) (s : State) → IsState graph s → s.path ≡ [] → AreAllSeen graph s.visits → AreComponents graph (map number_of s.visits)
components_found graph s h idle seen =
    let none = idle_waiting graph s h idle in
    let numbers : List ℕ = map number_of s.visits in
    let falls : (x y : ℕ) → HasEdge graph x y → get_or numbers y 0 ≤ get_or numbers x 0 = λ x y e. numbers_fall graph s x y h none seen e in
    record {
      counted = length-map s.visits number_of ∙ h.sized;
      one = λ a b l m.
          let here = closed_at graph s a h none (seen a l) in
          let there = closed_at graph s b h none (seen b m) in (
            λ e.
                let same : there.0 ≡ here.0 = omega (arith, e, number_is s.visits a here.0 here.1, number_is s.visits b there.0 there.1) in
                let too : visit_of s.visits b ≡ Closed here.0 = there.1 ∙ ap Closed same in
                (h.one a b here.0 here.1 too, h.one b a here.0 too here.1),
            λ r.
                let down = fall_along numbers falls r.0 in
                let up = fall_along numbers falls r.1 in
                omega (arith, down, up),
          );
      falls = falls;
    }
