-- Nets of one edge.
use Rattle.std.proofs.Common.{◌≡◌, ◌≢◌, ℕ, zero, suc, ◌≤◌, List, [], ◌∷◌, ◌⊎◌, inl, inr, sym, ◌∙◌, ap, subst, arith}
use Rattle.std.specs.List.{Contains}
use Rattle.std.proofs.lemmas.Bool.{cases_eq}
use Rattle.xs_class.specs.Classes.{Has}
use Rattle.xs_auto.specs.Edges.{Edge}
use Rattle.xs_auto.specs.Nets.{Graph, edges_of}
use Rattle.xs_test_tools.specs.Runs.{ReadsFrom}

only : (e f : Edge) → Contains (e ∷ []) f → e ≡ f
only e f (zero, lt, is) = is
only e f (suc k, lt, is) = let no : ⊥ = omega (arith, lt) in absurd no

nothing : (f : Edge) → Contains [] f → ⊥
nothing f (k, lt, is) = omega (arith, lt)

-- the one edge reads no symbol below a number, so the net reads none
pub one_reads : (low : ℕ) (n : Graph) (first : ℕ) (e : Edge) → edges_of n first ≡ e ∷ [] → ((i : ℕ) → i ≢ first → edges_of n i ≡ []) → ((s : ℕ) → Has e.class s → low ≤ s) → ReadsFrom low n
one_reads low n first e one none reads a s f has takes = by (cases_eq a first)
  where
    by : ((a ≡ first) ⊎ (a ≢ first)) → low ≤ s
    by (inl same) =
        let here : Contains (e ∷ []) f = subst (λ (l : List Edge). Contains l f) (ap (edges_of n) same ∙ one) has in
        reads s (subst (λ (x : Edge). Has x.class s) (sym (only e f here)) takes)
    by (inr other) = absurd (nothing f (subst (λ (l : List Edge). Contains l f) (none a other) has))
