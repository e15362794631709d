-- No edge of a content or of a cover reads a fence symbol, so they may be searched.
use Rattle.std.proofs.Common.{◌≡◌, ◌≢◌, ℕ, false, List, refl, sym, ap, subst, ◌∙◌}
use Rattle.std.specs.Prelude.{IsSome}
use Rattle.xs_class.specs.Classes.{Has}
use Rattle.xs_class.proofs.Truth.{false_true, or_false}
use Rattle.xs_auto.specs.Nets.{Graph}
use Rattle.xs_auto.specs.Nests.{Group, IsGroup, IsTame, IsFenced}
use Rattle.xs_gram.specs.Grammar.{Grammar}
use Rattle.xs_gram.specs.Fences.{is_left, is_right, is_fence, IsFence}
use Rattle.xs_gram.proofs.Fences.{is_left_of, is_right_of, one_right, one_left, sides_apart}
use Rattle.xs_coarse.specs.Coarse.{Table, Net, view}
use Rattle.xs_coarse.proofs.Views.{view_edge_arc}
use Rattle.xs_coarse.specs.Covers.{IsUnfencedNet, AreUnfenced}
use Rattle.xs_coarse_laws.specs.Laws.{Covering, CoverNestsAreFenced}

-- a symbol that no fence has is neither one of a fence
not_of : {fs : List (ℕ × ℕ)} {l r s : ℕ} → IsFence fs l r → is_fence fs s ≡ false → (s ≢ l) × (s ≢ r)
not_of {fs} {l} {r} {s} f plain =
    let sides = or_false (is_left fs s) (is_right fs s) plain in
    (λ e. false_true (sym sides.0 ∙ ap (λ (n : ℕ). is_left fs n) e ∙ is_left_of f), λ e. false_true (sym sides.1 ∙ ap (λ (n : ℕ). is_right fs n) e ∙ is_right_of f))

module _ (g : Grammar) (nest : List Group) (c : Covering g nest) where
  fence_of : (h : ℕ) (group : Group) → IsGroup nest h group → IsFence g.fences group.left group.right
  fence_of h group is = c.groups.fences h group is

  pub tame : {n : Graph} → IsSome n.start → IsUnfencedNet g n → IsTame nest n
  tame start plain = record { start = start; plain = λ a s e there has h group is. not_of (fence_of h group is) (plain a s e there has) }

  pub fenced : IsFenced nest
  fenced = record {
    tame = λ h group is. tame (c.groups.starts h group is) (c.groups.plain h group is);
    one_right = λ h k a b x y e. one_right c.built.proper.once (fence_of h a x) (fence_of k b y) e;
    one_left = λ h k a b x y e. one_left c.built.proper.once (fence_of h a x) (fence_of k b y) e;
    sides = λ h k a b x y e. sides_apart c.built.proper.once (fence_of h a x) (fence_of k b y) e;
  }

-- the class of an edge of a coarse net is one of the table
pub tame_view : (g : Grammar) (nest : List Group) → Covering g nest → (t : Table) → AreUnfenced g t → (n : Net) (a b : ℕ) → IsTame nest (view t n a b)
tame_view g nest c t unfenced n a b = tame g nest c refl plain
  where
    plain : IsUnfencedNet g (view t n a b)
    plain x s e there has =
        let arc = view_edge_arc t n a b x e there in
        unfenced arc.number s (subst (λ (class : List (ℕ × ℕ)). Has class s) arc.class has)

pub cover_nests_are_fenced : CoverNestsAreFenced
cover_nests_are_fenced g nest c = fenced g nest c
