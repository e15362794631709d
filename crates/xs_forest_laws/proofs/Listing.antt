-- The trees by number are a listing.
use Rattle.std.proofs.Common.{◌≡◌, ℕ, suc, ◌<◌, ◌≤◌, List, length, Bool, true, false, Some, sym, ap, ◌∙◌, arith, subst}
use Rattle.std.specs.Prelude.{slice_get}
use Rattle.std.proofs.lemmas.Bool.{ltb-true, ltb-false}
use Rattle.xs_gram.specs.Grammar.{Grammar}
use Rattle.xs_gram.specs.Derivations.{done, sub, Derivation}
use Rattle.xs_gram.specs.Languages.{Derives}
use Rattle.xs_chart_laws.proofs.Words.{get_lt, get_some}
use Rattle.xs_forest_laws.specs.Forest.{Forest, Unfolding, read, IsRight}
use Rattle.xs_forest_laws.specs.Number.{count_of, At}
use Rattle.xs_forest_laws.specs.Listing.{IsListed, IsByNumber}
use Rattle.xs_forest_laws.specs.Laws.{IsExact, IsRoot}
use Rattle.xs_forest_laws.proofs.Once.{sub_rule, sub_parts}
use Rattle.xs_forest_laws.proofs.Root.{exact}
use Rattle.xs_forest_laws.proofs.Number.{at_unfolds, at_one, one_at, numbered, all_numbered}

one_tree : (d e : Derivation) → sub d.rule d.parts done ≡ sub e.rule e.parts done → d ≡ e
one_tree d e h = ap (λ z. record { rule = z; parts = d.parts }) (sub_rule d.rule e.rule d.parts e.parts h) ∙ ap (λ z. record { rule = e.rule; parts = z }) (sub_parts d.rule e.rule d.parts e.parts h)

module _ (g : Grammar) (w : List ℕ) (f : Forest) (right : IsRight g w f) (root : ℕ) (row : IsRoot g w f root) (max : ℕ) (cs : List ℕ) (ds : List Derivation) (more : Bool) (by : IsByNumber g w f root max cs ds more) where
  is_exact : IsExact g w f root
  is_exact = exact g w f right root row

  derives : (k : ℕ) (d : Derivation) → slice_get ds k ≡ Some d → Derives g w d
  derives k d e =
      let b = by.each k d e in
      let t = is_exact.derives b.0 (at_unfolds f (suc max) cs (Some root) k b.0 b.1) in
      let same : t.0 ≡ d = one_tree t.0 d (sym t.2 ∙ b.2) in
      subst (λ z. Derives g w z) same t.1

  -- trees that are the same have the same number
  same_number : (k l : ℕ) (u v : Unfolding) (d : Derivation) → At f (suc max) cs (Some root) k u → At f (suc max) cs (Some root) l v → read g w f (Some root) u ≡ sub d.rule d.parts done → read g w f (Some root) v ≡ sub d.rule d.parts done → k ≡ l
  same_number k l u v d a b e h =
      let same = is_exact.once u v (at_unfolds f (suc max) cs (Some root) k u a) (at_unfolds f (suc max) cs (Some root) l v b) (e ∙ sym h) in
      at_one g w f right (suc max) cs (Some root) k l v (subst (λ z. At f (suc max) cs (Some root) k z) same a) b

  differ : (k l : ℕ) (d : Derivation) → slice_get ds k ≡ Some d → slice_get ds l ≡ Some d → k ≡ l
  differ k l d e h =
      let a = by.each k d e in
      let b = by.each l d h in
      same_number k l a.0 b.0 d a.1 b.1 a.2 b.2

  all : more ≡ false → (d : Derivation) → Derives g w d → (k : ℕ) × (slice_get ds k ≡ Some d)
  all e d h =
      let few : count_of cs (Some root) ≤ max = ltb-false max (count_of cs (Some root)) (sym by.says ∙ e) in
      let u = is_exact.unfolds d h in
      let k = all_numbered g w f right (suc max) cs by.counted (Some root) u.0 u.1 (omega arith) in
      let long = by.long in
      let t = get_some ds k.0 (omega (arith, k.1)) in
      let b = by.each k.0 t.0 t.1 in
      let same = one_at f (suc max) cs (Some root) k.0 b.0 u.0 b.1 k.2 in
      let is : t.0 ≡ d = one_tree t.0 d (sym b.2 ∙ (ap (λ z. read g w f (Some root) z) same ∙ u.2)) in
      (k.0, t.1 ∙ ap Some is)

  over : more ≡ true → (length ds ≡ max) × (d : Derivation) × Derives g w d × ((k : ℕ) → slice_get ds k ≡ Some d → ⊥)
  over e =
      let many : max < count_of cs (Some root) = ltb-true max (count_of cs (Some root)) (sym by.says ∙ e) in
      let long = by.long in
      let u = numbered g w f right (suc max) cs by.counted (Some root) (row.0, row.0) max many in
      let t = is_exact.derives u.0 (at_unfolds f (suc max) cs (Some root) max u.0 u.1) in (
        omega arith,
        t.0,
        t.1,
        λ k h.
            let b = by.each k t.0 h in
            let is = same_number k max b.0 u.0 t.0 b.1 u.1 b.2 t.2 in
            let lt = get_lt ds k t.0 h in
            absurd (omega arith),
      )

  pub listed : IsListed g w max ds more
  listed = record { derives = derives; differ = differ; within = (let long = by.long in omega arith); all = all; over = over }
