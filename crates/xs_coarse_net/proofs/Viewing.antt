-- From paths by arcs to walks over the view of a net, and nets that stand in other nets.
use Rattle.std.proofs.Common.{◌≡◌, ℕ, ◌<◌, List, [], refl, sym, subst}
use Rattle.std.specs.List.{All, Contains}
use Rattle.std.proofs.lemmas.List.Elements.{All-contains}
use Rattle.xs_class.specs.Classes.{Has}
use Rattle.xs_auto.specs.Nets.{Walks, rests, passes, reads, calls_of}
use Rattle.xs_auto.specs.Nests.{Group, Crossing, stands, drifts, takes, enters}
use Rattle.xs_gram.specs.declared.parts.GItem.{GItem}
use Rattle.xs_gram.specs.declared.parts.GItem.TheVariants.{Fixed, Term, Non, Skip}
use Rattle.xs_gram.specs.Grammar.{Grammar}
use Rattle.xs_meet.proofs.WalkLemmas.{walk_crosses, crosses_walk}
use Rattle.xs_coarse.specs.Coarse.{Table, Net, IsWithin, HasArc, class_label, group_label, class_at, view}
use Rattle.xs_coarse.specs.Covers.{CoversLeaf, IsLeaf}
use Rattle.xs_coarse.proofs.Views.{view_move, view_move_arc, view_edge, view_edge_arc, view_call, view_call_arc}
use Rattle.xs_coarse_net.specs.Going.{Goes, goes_none, goes_move, goes_read, LeafGoes}
use Rattle.xs_coarse_net.specs.Placing.{Placed}

-- an arc of a net leads from one of its states
pub from_low : (n : Net) (a l b : ℕ) → All (IsWithin n.states) n.arcs → HasArc n a l b → a < n.states
from_low n a l b all h = (All-contains (IsWithin n.states) n.arcs (record { from = a; label = l; to = b }) all h).from

pub goes_walks : {t : Table} {n : Net} (s e : ℕ) → All (IsWithin n.states) n.arcs → {a b : ℕ} {w : List ℕ} → Goes t n a w b → Walks (view t n s e) a w b
goes_walks s e all goes_none = rests
goes_walks {t} {n} s e all (goes_move {a = a} {b = b} x p) = passes (view_move t n s e a b (from_low n a 0 b all x) x) (goes_walks s e all p)
goes_walks {t} {n} s e all (goes_read {a = a} {b = b} {label = label} x r p) =
    reads (record { class = class_at t r.class; to = b }) (view_edge t n s e a r.class b (from_low n a label b all x) r.below (subst (λ (l : ℕ). HasArc n a l b) r.is x)) r.has (goes_walks s e all p)

pub leaf_walks : (g : Grammar) (t : Table) (n : Net) (i : GItem) (a b : ℕ) → All (IsWithin n.states) n.arcs → IsLeaf i → LeafGoes g t n i a b → CoversLeaf g (view t n 0 0) i a b
leaf_walks g t n (Fixed f) a b within leaf h = goes_walks 0 0 within h
leaf_walks g t n (Term j s) a b within leaf h = λ w word. goes_walks 0 0 within (h w word)
leaf_walks g t n (Non m s) a b within leaf h = absurd leaf
leaf_walks g t n (Skip k) a b within leaf h = λ w word. goes_walks 0 0 within (h w word)

-- States of a net stand for states of another: where one stands for another, each arc of the first leads
-- to a state that stands for one to which an arc with its label leads.
pub record Stands (m n : Net) (H : ℕ → ℕ → Type 0) : Type 0 where
  pub within : All (IsWithin n.states) n.arcs
  pub arc : (x u l y : ℕ) → H x u → HasArc m x l y → (v : ℕ) × H y v × HasArc n u l v

module _ (t : Table) {m n : Net} {H : ℕ → ℕ → Type 0} (k : Stands m n H) (s e i j : ℕ) where
  pub stands_crossing : {nest : List Group} {x y : ℕ} {w : List ℕ} → Crossing nest (view t m s e) x w y → (u : ℕ) → H x u → (v : ℕ) × H y v × Crossing nest (view t n i j) u w v
  stands_crossing stands u h = (u, h, stands)
  stands_crossing (drifts {a = a} {b = b} c p) u h =
      let to = k.arc a u 0 b h (view_move_arc t m s e a b c).1 in
      let rest = stands_crossing p to.0 to.1 in
      (rest.0, rest.1, drifts (view_move t n i j u to.0 (from_low n u 0 to.0 k.within to.2) to.2) rest.2)
  stands_crossing (takes {a = a} {s = z} x c has p) u h =
      let arc = view_edge_arc t m s e a x c in
      let to = k.arc a u (class_label arc.number) x.to h arc.arc in
      let rest = stands_crossing p to.0 to.1 in
      (rest.0, rest.1, takes (record { class = class_at t arc.number; to = to.0 }) (view_edge t n i j u arc.number to.0 (from_low n u (class_label arc.number) to.0 k.within to.2) arc.below to.2) (subst (λ (l : List (ℕ × ℕ)). Has l z) arc.class has) rest.2)
  stands_crossing (enters {a = a} x group c is starts content final p split) u h =
      let arc = view_call_arc t m s e a x c in
      let to = k.arc a u (group_label t x.group) x.to h arc.1 in
      let rest = stands_crossing p to.0 to.1 in
      (rest.0, rest.1, enters (record { group = x.group; to = to.0 }) group (view_call t n i j u x.group to.0 (from_low n u (group_label t x.group) to.0 k.within to.2) to.2) is starts content final rest.2 split)

  pub stands_walks : {x y : ℕ} {w : List ℕ} → Walks (view t m s e) x w y → (u : ℕ) → H x u → (v : ℕ) × H y v × Walks (view t n i j) u w v
  stands_walks p u h = let to = stands_crossing (walk_crosses [] p) u h in (to.0, to.1, crosses_walk to.2)

-- a state is that with a new number
abbrev IsImage : (ℕ → ℕ) → ℕ → ℕ → Type 0
IsImage f x u = u ≡ f x

pub placed_stands : {m n : Net} {f : ℕ → ℕ} → Placed m n f → Stands m n (IsImage f)
placed_stands {n = n} {f = f} h = record { within = h.within; arc = λ x u l y is has. (f y, refl, subst (λ (z : ℕ). HasArc n z l (f y)) (sym is) (h.arc x l y has)) }

module _ (t : Table) {m n : Net} {f : ℕ → ℕ} (h : Placed m n f) (s e i j : ℕ) where
  pub placed_walks : {a b : ℕ} {w : List ℕ} → Walks (view t m s e) a w b → Walks (view t n i j) (f a) w (f b)
  placed_walks {a} {b} {w} p =
      let to = stands_walks t {m = m} {n = n} {H = IsImage f} (placed_stands h) s e i j p (f a) refl in
      subst (λ (v : ℕ). Walks (view t n i j) (f a) w v) to.1 to.2

  pub placed_crossing : {nest : List Group} {a b : ℕ} {w : List ℕ} → Crossing nest (view t m s e) a w b → Crossing nest (view t n i j) (f a) w (f b)
  placed_crossing {nest} {a} {b} {w} p =
      let to = stands_crossing t {m = m} {n = n} {H = IsImage f} (placed_stands h) s e i j p (f a) refl in
      subst (λ (v : ℕ). Crossing nest (view t n i j) (f a) w v) to.1 to.2

  pub placed_call : (a group b : ℕ) → Contains (calls_of (view t m s e) a) (record { group = group; to = b }) → Contains (calls_of (view t n i j) (f a)) (record { group = group; to = f b })
  placed_call a group b c =
      let arc = h.arc a (group_label t group) b (view_call_arc t m s e a (record { group = group; to = b }) c).1 in
      view_call t n i j (f a) group (f b) (from_low n (f a) (group_label t group) (f b) h.within arc) arc
