-- A node lies on a cycle exactly where an edge leads from it to a node of its component.
use Rattle.std.proofs.Common.{◌≡◌, ◌≢◌, ◌∙◌, sym, ap, subst, ℕ, ◌+◌, ◌<◌, ◌≤◌, List, [], length, get_or, take, Some, arith, inl, inr, get_or-take}
use Rattle.std.specs.List.{All, Contains, slice_get}
use Rattle.std.proofs.lemmas.List.{get_or_default, length-take}
use Rattle.std.proofs.lemmas.Option.{get_or_from_slice_get}
use Rattle.std.proofs.lemmas.Bool.{cases_lt}
use Rattle.std.proofs.lemmas.List.Elements.{All-contains}
use Rattle.xs_graph.specs.Graphs.{IsGraph, targets_of, HasEdge, AreComponents, IsCyclic, FallAlong, HasNumber}
use Rattle.xs_graph.proofs.Reaching.{reaches_edge}
use Rattle.xs_graph.proofs.Finding.{edge_within}

-- an edge to a node of the same number closes a cycle
cyclic_by : (graph : List (List ℕ)) (numbers : List ℕ) (a b : ℕ) → IsGraph graph → AreComponents graph numbers → HasEdge graph a b → get_or numbers b 0 ≡ get_or numbers a 0 → IsCyclic graph a
cyclic_by graph numbers a b sound h e same =
    let node : b < length graph = All-contains (λ x. x < length graph) (targets_of graph a) b (sound a) e in
    record { next = b; edge = e; back = ((h.one b a node (edge_within graph a b e)).0 same).0 }

pub cyclic_here : (graph : List (List ℕ)) (targets numbers : List ℕ) (a number : ℕ) → IsGraph graph → AreComponents graph numbers → slice_get graph a ≡ Some targets → slice_get numbers a ≡ Some number → HasNumber targets numbers number → IsCyclic graph a
cyclic_here graph targets numbers a number sound h row is has =
    let same : targets_of graph a ≡ targets = get_or_from_slice_get graph a targets [] row in
    let edge : HasEdge graph a has.target = subst (λ (x : List ℕ). Contains x has.target) (sym same) has.has in
    cyclic_by graph numbers a has.target sound h edge (has.is ∙ sym (get_or_from_slice_get numbers a number 0 is))

pub not_cyclic : (graph : List (List ℕ)) (targets numbers : List ℕ) (a number : ℕ) → IsGraph graph → AreComponents graph numbers → slice_get graph a ≡ Some targets → slice_get numbers a ≡ Some number → (HasNumber targets numbers number → ⊥) → IsCyclic graph a → ⊥
not_cyclic graph targets numbers a number sound h row is none c =
    let same : targets_of graph a ≡ targets = get_or_from_slice_get graph a targets [] row in
    let node : c.next < length graph = All-contains (λ x. x < length graph) (targets_of graph a) c.next (sound a) c.edge in
    let one = (h.one c.next a node (edge_within graph a c.next c.edge)).1 (c.back, reaches_edge graph a c.next c.edge) in
    none (record { target = c.next; has = subst (λ (x : List ℕ). Contains x c.next) same c.edge; is = one ∙ get_or_from_slice_get numbers a number 0 is })

-- where no node lies on a cycle the numbers fall
pub acyclic_falls : (graph : List (List ℕ)) (numbers : List ℕ) → IsGraph graph → AreComponents graph numbers → ((a : ℕ) → IsCyclic graph a → ⊥) → FallAlong graph numbers
acyclic_falls graph numbers sound h none a b e =
    let down = h.falls a b e in
    elim (cases_lt (get_or numbers b 0) (get_or numbers a 0)) [
      | inl l ↦ l
      | inr l ↦ absurd (none a (cyclic_by graph numbers a b sound h e (omega arith)))
    ]

-- no node below the number lies on a cycle, and there are no more nodes
pub none_cyclic : (graph : List (List ℕ)) (n : ℕ) → length graph ≤ n → ((a : ℕ) → a < n → IsCyclic graph a → ⊥) → (a : ℕ) → IsCyclic graph a → ⊥
none_cyclic graph n l none a c =
    let within = edge_within graph a c.next c.edge in
    none a (omega (arith, within)) c

-- one target more that does not have the number
pub number_more : (targets numbers : List ℕ) (number k : ℕ) → k < length targets → get_or numbers (get_or targets k 0) 0 ≢ number → (HasNumber (take k targets) numbers number → ⊥) → HasNumber (take (k + 1) targets) numbers number → ⊥
number_more targets numbers number k l ne none h =
    let size = length-take (k + 1) targets in
    let at : ℕ = h.has.0 in
    let below : at < k + 1 = omega (arith, h.has.1, size) in
    let is : get_or targets at h.target ≡ h.target = sym (get_or-take (k + 1) targets at h.target below) ∙ h.has.2 in
    elim (cases_lt at k) [
      | inl less ↦ none (record {
        target = h.target;
        has = (at, omega (arith, length-take k targets), get_or-take k targets at h.target less ∙ is);
        is = h.is;
      })
      | inr more ↦
          let same : at ≡ k = omega arith in
          let there : get_or targets k 0 ≡ h.target = sym (ap (λ (x : ℕ). get_or targets x 0) same) ∙ get_or_default targets at 0 h.target (omega arith) ∙ is in
          ne (ap (λ (x : ℕ). get_or numbers x 0) there ∙ h.is)
    ]

pub number_at : (targets numbers : List ℕ) (number k : ℕ) → k < length targets → get_or numbers (get_or targets k 0) 0 ≡ number → HasNumber targets numbers number
number_at targets numbers number k l is = record {
  target = get_or targets k 0;
  has = (k, l, get_or_default targets k (get_or targets k 0) 0 l);
  is = is;
}

-- each target has a number
pub targets_numbered : (graph : List (List ℕ)) (targets numbers : List ℕ) (a : ℕ) → IsGraph graph → AreComponents graph numbers → slice_get graph a ≡ Some targets → All (λ b. b < length numbers) targets
targets_numbered graph targets numbers a sound h row =
    let same : targets_of graph a ≡ targets = get_or_from_slice_get graph a targets [] row in
    subst (λ (x : List ℕ). All (λ b. b < length numbers) x) same (λ k d l. let below = sound a k d l in omega (arith, below, h.counted))
