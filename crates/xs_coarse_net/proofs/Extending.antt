-- A net goes on by a group or by an item.
use Rattle.std.proofs.Common.{◌≡◌, ◌⊎◌, inl, inr, ℕ, zero, suc, ◌+◌, ◌<◌, List, [], ◌∷◌, length, get_or, set, slice_get, Some, refl, sym, ap, subst, arith}
use Rattle.std.specs.declared.option.Option.{Option}
use Rattle.std.proofs.lemmas.Option.{same_Some}
use Rattle.std.specs.List.{All}
use Rattle.xs_gram.specs.declared.parts.GItem.{GItem}
use Rattle.xs_gram.specs.Grammar.{Grammar}
use Rattle.xs_gram.specs.Fences.{spread, IsPlain, grouped, IsPartner, IsLeftFence}
use Rattle.xs_gram.specs.Sound.{IsProper}
use Rattle.xs_loose.specs.Groups.{group_number}
use Rattle.xs_loose.specs.Steps.{StandsAt}
use Rattle.xs_loose.proofs.Opening.{group_first, item_first}
use Rattle.xs_loose.proofs.Stepping.{group_piece, item_piece}
use Rattle.xs_coarse.specs.Coarse.{Table, Net, IsWithin, HasArc, group_label, joined}
use Rattle.xs_coarse.specs.Covers.{CoversItem, covers_none, covers_then, covers_group}
use Rattle.xs_coarse.proofs.Views.{view_call}
use Rattle.xs_coarse_net.specs.Joining.{Joins, IsFragment, AreFragments}
use Rattle.xs_coarse_net.specs.Placing.{Placed}
use Rattle.xs_coarse_net.specs.Stretches.{open_view, last_state, Extends}
use Rattle.xs_coarse_net.proofs.Covering.{joined_second, joined_item, joined_kept}
use Rattle.xs_coarse_net.proofs.Viewing.{from_low}

pub joins_kept : (m n o : Net) → Joins m n o → Placed m o (λ x. x)
joins_kept m n o j = joined_kept m n o j.is j.within

pub joins_item : (g : Grammar) (t : Table) (m n o : Net) (x : GItem) → Joins m n o → CoversItem g (open_view t n) x 0 (last_state n) → CoversItem g (open_view t o) x (last_state m) (last_state o)
joins_item g t m n o x j c = joined_item g t m n o 0 0 x j.is j.some j.more j.within c

-- an arc from state 0 to state 1 of a net of two states
pub joins_arc : (m n o : Net) (l : ℕ) → Joins m n o → n.states ≡ 2 → HasArc n 0 l 1 → HasArc o (last_state m) l (last_state o)
joins_arc m n o l j two arc = at_joined o j.is j.within
  where
    at_joined : (o : Net) → o ≡ joined m n → All (IsWithin o.states) o.arcs → HasArc o (last_state m) l (last_state o)
    at_joined o is within =
        let inside = subst (λ (z : Net). All (IsWithin z.states) z.arcs) is within in
        let there = (joined_second m n inside).arc 0 l 1 arc in
        let from : last_state m + 0 ≡ last_state m = omega arith in
        let to : last_state m + 1 ≡ last_state (joined m n) = omega (arith, j.some, two) in
        subst (λ (z : Net). HasArc z (last_state m) l (last_state z)) (sym is) (subst (λ (a : ℕ). HasArc (joined m n) a l (last_state (joined m n))) from (subst (λ (b : ℕ). HasArc (joined m n) (last_state m + 0) l b) to there))

module _ (g : Grammar) (t : Table) (p k : ℕ) (rest : List GItem) (old new : Net) (placed : Placed old new (λ x. x)) (at : StandsAt g p k rest) where
  pub extends_group : (m : ℕ) → IsProper g → IsPartner g.fences (spread g p) k m → HasArc new (last_state old) (group_label t (group_number g p k)) (last_state new) → Extends g t p k rest (m + 1) old new
  extends_group m proper partner arc =
      let f = group_first g.fences proper.once (spread g p) rest at.post k m partner at.split at.level at.some in record {
        piece = grouped f.left f.inside f.right [];
        later = f.later;
        is = group_piece g k m rest f;
        covers = covers_group f.fence f.within (view_call t new 0 0 (last_state old) (group_number g p k) (last_state new) (from_low new (last_state old) (group_label t (group_number g p k)) (last_state new) placed.within arc) arc) covers_none refl;
        placed = placed;
      }

  pub extends_item : (i : GItem) → k < length (spread g p) → i ≡ get_or (spread g p) k i → (IsLeftFence g.fences (spread g p) k → ⊥) → (IsPlain g.fences i → CoversItem g (open_view t new) i (last_state old) (last_state new)) → Extends g t p k rest (k + 1) old new
  extends_item i low is other h =
      let f = item_first g.fences (spread g p) rest at.post k i low is other at.split at.level at.some in record {
        piece = i ∷ [];
        later = f.later;
        is = item_piece g k rest i f;
        covers = covers_then f.plain (h f.plain) covers_none;
        placed = placed;
      }

set_cases : {A : Type 0} (xs : List A) (i j : ℕ) (x y : A) → slice_get (set xs i x) j ≡ Some y → ((j ≡ i) × (x ≡ y)) ⊎ (slice_get xs j ≡ Some y)
set_cases [] i j x y e = inr e
set_cases (z ∷ xs) zero zero x y e = inl (refl, same_Some _ _ e)
set_cases (z ∷ xs) zero (suc j) x y e = inr e
set_cases (z ∷ xs) (suc i) zero x y e = inr e
set_cases (z ∷ xs) (suc i) (suc j) x y e = elim (set_cases xs i j x y e) [
  | inl h ↦ inl (ap suc h.0, h.1)
  | inr h ↦ inr h
]

some_same : {A : Type 0} {x y : A} → Some x ≡ Some y → x ≡ y
some_same e = same_Some _ _ e

-- one more fragment is kept
pub kept_more : (g : Grammar) (t : Table) (kept : List (Option Net)) (non : ℕ) (n : Net) → IsFragment g t non n → AreFragments g t kept → AreFragments g t (set kept non (Some n))
kept_more g t kept non n is was m o e = elim (set_cases kept non m (Some n) (Some o) e) [
  | inl h ↦ subst (λ (x : Net). IsFragment g t m x) (some_same h.1) (subst (λ (k : ℕ). IsFragment g t k n) (sym h.0) is)
  | inr h ↦ was m o h
]
