-- Laws of reaching.
use Rattle.std.proofs.Common.{◌≡◌, ℕ, min, List, get_or, ap, subst, arith, inl, inr}
use Rattle.std.proofs.lemmas.Bool.{cases_lt}
use Rattle.xs_graph.specs.Graphs.{HasEdge, Reaches, stays, passes}

pub reaches_then : {graph : List (List ℕ)} {a b c : ℕ} → Reaches graph a b → Reaches graph b c → Reaches graph a c
reaches_then stays r = r
reaches_then (passes e p) r = passes e (reaches_then p r)

pub reaches_edge : (graph : List (List ℕ)) (a b : ℕ) → HasEdge graph a b → Reaches graph a b
reaches_edge graph a b e = passes e stays

pub reaches_same : (graph : List (List ℕ)) (a b : ℕ) → a ≡ b → Reaches graph a b
reaches_same graph a b e = subst (λ (x : ℕ). Reaches graph a x) e stays

pub reaches_from : {graph : List (List ℕ)} {a b c : ℕ} → a ≡ b → Reaches graph a c → Reaches graph b c
reaches_from {graph} {c = c} e r = subst (λ (x : ℕ). Reaches graph x c) e r

pub reaches_to : {graph : List (List ℕ)} {a b c : ℕ} → b ≡ c → Reaches graph a b → Reaches graph a c
reaches_to {graph} {a = a} e r = subst (λ (x : ℕ). Reaches graph a x) e r

pub edge_from : (graph : List (List ℕ)) (a b c : ℕ) → a ≡ b → HasEdge graph a c → HasEdge graph b c
edge_from graph a b c e h = subst (λ (x : ℕ). HasEdge graph x c) e h

-- what reaches the nodes at two places reaches that at the lower one
pub reaches_min : (graph : List (List ℕ)) (w : List ℕ) (a j k : ℕ) → Reaches graph a (get_or w j 0) → Reaches graph a (get_or w k 0) → Reaches graph a (get_or w (min j k) 0)
reaches_min graph w a j k first second = elim (cases_lt j k) [
  | inl l ↦ let e : j ≡ min j k = omega arith in reaches_to (ap (λ (x : ℕ). get_or w x 0) e) first
  | inr l ↦ let e : k ≡ min j k = omega arith in reaches_to (ap (λ (x : ℕ). get_or w x 0) e) second
]
