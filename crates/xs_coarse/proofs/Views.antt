-- What the view of a coarse net has: its moves, edges and calls are the arcs of the net, by their labels.
use Rattle.std.proofs.Common.{◌≡◌, ℕ, zero, suc, ◌+◌, ◌-◌, ◌<◌, ◌≤◌, inl, inr, Bool, true, false, List, [], ◌∷◌, length, map, get_or, refl, sym, ap, subst, ◌∙◌, arith}
use Rattle.std.specs.Prelude.{nat_eq, nat_lt, cond}
use Rattle.std.specs.List.{Contains, filter}
use Rattle.std.proofs.Math.ListN.{get_or-eq_default}
use Rattle.std.proofs.lemmas.Bool.{cases_lt, eq-eqb, eqb-true}
use Rattle.std.proofs.lemmas.List.FromFn.{get_or-map-range_with_len, length-map-range_with_len}
use Rattle.xs_class.proofs.Lists.{first_in, rest_in}
use Rattle.xs_class.proofs.Truth.{and_true, both_true, lt_is, lt_true}
use Rattle.xs_auto.specs.declared.call.Call.{Call}
use Rattle.xs_auto.specs.Edges.{Edge}
use Rattle.xs_auto.specs.Nets.{Node, bare, states, final_at, edges_of, moves_of, calls_of}
use Rattle.xs_coarse.specs.declared.arc.Arc.{Arc}
use Rattle.xs_coarse.specs.Coarse.{Table, Net, HasArc, class_label, group_label, class_at, is_move, is_edge, is_call, edge_of, call_from, node_of, view}

-- what is picked by a test, as a function shows it
picked : {X Y : Type 0} (p : X → Bool) (f : X → Y) (xs : List X) (x : X) → Contains xs x → p x ≡ true → Contains (map f (filter p xs)) (f x)
picked p f [] x (k, lt, e) t = absurd (omega arith)
picked p f (y ∷ xs) x (zero, lt, e) t = let is : p y ≡ true = ap p e ∙ t in rw is (0, omega arith, ap f e)
picked {X} {Y} p f (y ∷ xs) x (suc k, lt, e) t = go (p y) (picked p f xs x (k, omega arith, e) t)
  where
    go : (b : Bool) → Contains (map f (filter p xs)) (f x) → Contains (map f (cond b (y ∷ filter p xs) (filter p xs))) (f x)
    go true h = rest_in (f y) (map f (filter p xs)) (f x) h
    go false h = h

-- the element that is shown so
record IsPicked {X Y : Type 0} (p : X → Bool) (f : X → Y) (xs : List X) (y : Y) : Type 0 where
  one : X
  there : Contains xs one
  test : p one ≡ true
  shown : f one ≡ y

picked_from : {X Y : Type 0} (p : X → Bool) (f : X → Y) (xs : List X) (y : Y) → Contains (map f (filter p xs)) y → IsPicked p f xs y
picked_from p f [] y (k, lt, e) = absurd (omega arith)
picked_from {X} {Y} p f (x ∷ xs) y h = go (p x) refl (picked_from p f xs y) h
  where
    later : IsPicked p f xs y → IsPicked p f (x ∷ xs) y
    later i = record { one = i.one; there = rest_in x xs i.one i.there; test = i.test; shown = i.shown }

    go : (b : Bool) → p x ≡ b → (Contains (map f (filter p xs)) y → IsPicked p f xs y) → Contains (map f (cond b (x ∷ filter p xs) (filter p xs))) y → IsPicked p f (x ∷ xs) y
    go false e rest c = later (rest c)
    go true e rest (zero, lt, s) = record { one = x; there = first_in x xs; test = e; shown = s }
    go true e rest (suc k, lt, s) = later (rest (k, omega arith, s))

abbrev arc : ℕ → ℕ → ℕ → Arc
arc a l b = record { from = a; label = l; to = b }

arc_is : (x : Arc) (a l b : ℕ) → x.from ≡ a → x.label ≡ l → x.to ≡ b → ◌≡◌ {A = Arc} (arc x.from x.label x.to) (arc a l b)
arc_is x a l b e f g = ap (λ v. arc v x.label x.to) e ∙ ap (λ v. arc a v x.to) f ∙ ap (λ v. arc a l v) g

has_arc : (n : Net) (x : Arc) (a l b : ℕ) → Contains n.arcs x → x.from ≡ a → x.label ≡ l → x.to ≡ b → HasArc n a l b
has_arc n x a l b h e f g = subst (λ (y : Arc). Contains n.arcs y) (arc_is x a l b e f g) h

pub view_states : (t : Table) (n : Net) (s e : ℕ) → states (view t n s e) ≡ n.states
view_states t n s e = length-map-range_with_len (node_of t n e) 0 n.states

-- a state of the view, and none past the last one
pub view_node : (t : Table) (n : Net) (s e a : ℕ) → a < n.states → get_or (view t n s e).nodes a bare ≡ node_of t n e a
view_node t n s e a lt = get_or-map-range_with_len (node_of t n e) 0 n.states a a bare lt (omega arith)

pub view_bare : (t : Table) (n : Net) (s e a : ℕ) → n.states ≤ a → get_or (view t n s e).nodes a bare ≡ bare
view_bare t n s e a le = get_or-eq_default (view t n s e).nodes bare (omega (arith, view_states t n s e))

-- what holds of a state that has something holds of a state of the net
at_node : (t : Table) (n : Net) (s e a : ℕ) (P : Node → Type 0) → (P bare → ⊥) → P (get_or (view t n s e).nodes a bare) → (a < n.states) × P (node_of t n e a)
at_node t n s e a P none h = elim (cases_lt a n.states) [
  | inl lt ↦ (lt, subst P (view_node t n s e a lt) h)
  | inr le ↦ absurd (none (subst P (view_bare t n s e a le) h))
]

nothing : {X : Type 0} (x : X) → Contains [] x → ⊥
nothing x (k, lt, e) = omega arith

-- one state is final
pub view_final : (t : Table) (n : Net) (s e : ℕ) → e < n.states → final_at (view t n s e) e ≡ true
view_final t n s e lt = ap (λ (m : Node). m.final) (view_node t n s e e lt) ∙ eq-eqb e e refl

pub view_final_is : (t : Table) (n : Net) (s e a : ℕ) → final_at (view t n s e) a ≡ true → a ≡ e
view_final_is t n s e a h = eqb-true a e (at_node t n s e a (λ m. m.final ≡ true) (λ f. cc) h).1

-- an arc whose label is 0 is an empty move, and each is such an arc
pub view_move : (t : Table) (n : Net) (s e a b : ℕ) → a < n.states → HasArc n a 0 b → Contains (moves_of (view t n s e) a) b
view_move t n s e a b lt h =
    let test : is_move a (record { from = a; label = 0; to = b }) ≡ true = both_true (nat_eq a a) (nat_eq 0 0) (eq-eqb a a refl) refl in
    subst (λ (m : Node). Contains m.moves b) (sym (view_node t n s e a lt)) (picked (is_move a) (λ (x : Arc). x.to) n.arcs _ h test)

pub view_move_arc : (t : Table) (n : Net) (s e a b : ℕ) → Contains (moves_of (view t n s e) a) b → (a < n.states) × HasArc n a 0 b
view_move_arc t n s e a b h =
    let at = at_node t n s e a (λ m. Contains m.moves b) (nothing b) h in
    let i = picked_from (is_move a) (λ (x : Arc). x.to) n.arcs b at.1 in
    let test = and_true (nat_eq i.one.from a) (nat_eq i.one.label 0) i.test in
    (at.0, has_arc n i.one a 0 b i.there (eqb-true _ _ test.0) (eqb-true _ _ test.1) i.shown)

-- an arc with the label of a class is an edge, and each is such an arc
pub view_edge : (t : Table) (n : Net) (s e a c b : ℕ) → a < n.states → c < length t.classes → HasArc n a (class_label c) b → Contains (edges_of (view t n s e) a) (record { class = class_at t c; to = b })
view_edge t n s e a c b lt in' h =
    let test : is_edge t a (record { from = a; label = suc c; to = b }) ≡ true = both_true (nat_eq a a) _ (eq-eqb a a refl) (both_true (nat_lt 0 (suc c)) (nat_lt (suc c) (suc (length t.classes))) (lt_true 0 (suc c) (omega arith)) (lt_true (suc c) (suc (length t.classes)) (omega arith))) in
    let there = picked (is_edge t a) (edge_of t) n.arcs _ h test in
    let same : suc c - 1 ≡ c = omega arith in
    subst (λ (m : Node). Contains m.edges (record { class = class_at t c; to = b })) (sym (view_node t n s e a lt)) (rw same at there)

pub record IsEdgeArc (t : Table) (n : Net) (a : ℕ) (e : Edge) : Type 0 where
  pub number : ℕ
  pub below : number < length t.classes
  pub within : a < n.states
  pub arc : HasArc n a (class_label number) e.to
  pub class : e.class ≡ class_at t number

pub view_edge_arc : (t : Table) (n : Net) (s e a : ℕ) (x : Edge) → Contains (edges_of (view t n s e) a) x → IsEdgeArc t n a x
view_edge_arc t n s e a x h =
    let at = at_node t n s e a (λ m. Contains m.edges x) (nothing x) h in
    let i = picked_from (is_edge t a) (edge_of t) n.arcs x at.1 in
    let test = and_true (nat_eq i.one.from a) _ i.test in
    let both = and_true (nat_lt 0 i.one.label) _ test.1 in
    let low = lt_is _ _ both.0 in
    let high = lt_is _ _ both.1 in
    record {
      number = i.one.label - 1;
      below = omega arith;
      within = at.0;
      arc = has_arc n i.one a (suc (i.one.label - 1)) x.to i.there (eqb-true _ _ test.0) (omega arith) (ap (λ (y : Edge). y.to) i.shown);
      class = sym (ap (λ (y : Edge). y.class) i.shown);
    }

-- an arc with the label of a group is a call, and each is such an arc
pub view_call : (t : Table) (n : Net) (s e a h b : ℕ) → a < n.states → HasArc n a (group_label t h) b → Contains (calls_of (view t n s e) a) (record { group = h; to = b })
view_call t n s e a h b lt arc =
    let test : is_call t a (record { from = a; label = group_label t h; to = b }) ≡ true = both_true (nat_eq a a) (nat_lt (length t.classes) (group_label t h)) (eq-eqb a a refl) (lt_true (length t.classes) (group_label t h) (omega arith)) in
    let there = picked (is_call t a) (call_from t) n.arcs _ arc test in
    let same : suc (length t.classes + h) - suc (length t.classes) ≡ h = omega arith in
    subst (λ (m : Node). Contains m.calls (record { group = h; to = b })) (sym (view_node t n s e a lt)) (rw same at there)

pub view_call_arc : (t : Table) (n : Net) (s e a : ℕ) (k : Call) → Contains (calls_of (view t n s e) a) k → (a < n.states) × HasArc n a (group_label t k.group) k.to
view_call_arc t n s e a k h =
    let at = at_node t n s e a (λ m. Contains m.calls k) (nothing k) h in
    let i = picked_from (is_call t a) (call_from t) n.arcs k at.1 in
    let test = and_true (nat_eq i.one.from a) _ i.test in
    let low = lt_is _ _ test.1 in
    let group : i.one.label - suc (length t.classes) ≡ k.group = ap (λ (c : Call). c.group) i.shown in
    (at.0, has_arc n i.one a (group_label t k.group) k.to i.there (eqb-true _ _ test.0) (omega arith) (ap (λ (c : Call). c.to) i.shown))
