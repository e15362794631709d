-- The paths of a coarse net do not depend on the ends between which it is seen.
use Rattle.std.proofs.Common.{◌≡◌, inl, inr, ℕ, ◌<◌, List, get_or, refl, sym, ap, subst, ◌∙◌}
use Rattle.std.proofs.lemmas.Bool.{cases_lt}
use Rattle.std.specs.List.{Contains}
use Rattle.xs_auto.specs.declared.call.Call.{Call}
use Rattle.xs_auto.specs.Edges.{Edge}
use Rattle.xs_auto.specs.Nets.{Graph, Node, bare, edges_of, moves_of, calls_of}
use Rattle.xs_auto.specs.Nests.{Group, Crossing, stands, drifts, takes, enters, AcceptsNested}
use Rattle.xs_coarse.specs.Coarse.{Table, Net, node_of, view}
use Rattle.xs_coarse.proofs.Views.{view_node, view_bare, view_final}

-- the two nets lead on from each state in the same way
pub record HaveSameSteps (m n : Graph) : Type 0 where
  pub edges : (x : ℕ) → edges_of m x ≡ edges_of n x
  pub moves : (x : ℕ) → moves_of m x ≡ moves_of n x
  pub calls : (x : ℕ) → calls_of m x ≡ calls_of n x

pub crosses_same : {nest : List Group} {m : Graph} {a b : ℕ} {w : List ℕ} → Crossing nest m a w b → (n : Graph) → HaveSameSteps m n → Crossing nest n a w b
crosses_same stands n same = stands
crosses_same (drifts {a = a} {b = b} move p) n same = drifts (subst (λ (xs : List ℕ). Contains xs b) (same.moves a) move) (crosses_same p n same)
crosses_same (takes {a = a} e edge has p) n same = takes e (subst (λ (xs : List Edge). Contains xs e) (same.edges a) edge) has (crosses_same p n same)
crosses_same (enters {a = a} k group call is starts inside final p e) n same = enters k group (subst (λ (xs : List Call). Contains xs k) (same.calls a) call) is starts inside final (crosses_same p n same) e

module _ (t : Table) (n : Net) where
  -- two views of the net have what is the same in both nodes of each state
  same_of : {X : Type 0} (f : Node → X) (a b c d : ℕ) → ((x : ℕ) → f (node_of t n b x) ≡ f (node_of t n d x)) → (x : ℕ) → f (get_or (view t n a b).nodes x bare) ≡ f (get_or (view t n c d).nodes x bare)
  same_of f a b c d same x = elim (cases_lt x n.states) [
    | inl low ↦ ap f (view_node t n a b x low) ∙ same x ∙ sym (ap f (view_node t n c d x low))
    | inr high ↦ ap f (view_bare t n a b x high) ∙ sym (ap f (view_bare t n c d x high))
  ]

  pub views_same : (a b c d : ℕ) → HaveSameSteps (view t n a b) (view t n c d)
  views_same a b c d = record {
    edges = same_of (λ (node : Node). node.edges) a b c d (λ x. refl);
    moves = same_of (λ (node : Node). node.moves) a b c d (λ x. refl);
    calls = same_of (λ (node : Node). node.calls) a b c d (λ x. refl);
  }

  -- a path from the one end to the other is accepted
  pub view_accepts : {nest : List Group} {a b : ℕ} {w : List ℕ} → b < n.states → Crossing nest (view t n a b) a w b → AcceptsNested nest (view t n a b) w
  view_accepts {a = a} {b = b} low path = record {
    first = a;
    last = b;
    starts = refl;
    crosses = path;
    final = view_final t n a b low;
  }
