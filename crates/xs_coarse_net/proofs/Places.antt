-- A place of a rule is laid where its group is called, or its item leads on.
use Rattle.std.specs.Prelude.{slice_range}
use Rattle.std.proofs.Common.{List, ◌≤◌, ◌≢◌, ◌-◌, drop, length-append, length-take-le, length-drop, ◌≡◌, ℕ, suc, ◌+◌, ◌<◌, length, get_or, Some, sym, ap, subst, ◌∙◌, arith}
use Rattle.std.proofs.lemmas.Option.{same_Some, slice_get-get_or}
use Rattle.xs_gram.specs.declared.parts.GItem.{GItem}
use Rattle.xs_gram.specs.declared.parts.GItem.TheVariants.{Fixed, Term, Non, Skip}
use Rattle.xs_gram.specs.Grammar.{Grammar, rule_of}
use Rattle.xs_gram.specs.Fences.{spread, IsPlain, IsLevel, IsCut, cut_here, OuterAt, IsPartner, IsLeftFence}
use Rattle.xs_gram.specs.Cuts.{CutsAt, CutsAreOne}
use Rattle.xs_gram.specs.Sound.{IsProper}
use Rattle.xs_gram.proofs.Fences.{left_not_plain}
use Rattle.xs_gram.proofs.Levels.{outer_at, level_rest}
use Rattle.xs_loose.specs.Groups.{group_number}
use Rattle.xs_loose.proofs.Nesting.{left_at, left_opens, inside_once}
use Rattle.xs_coarse.specs.Coarse.{Table, Net, HasArc, group_label}
use Rattle.xs_coarse.specs.Covers.{IsLeaf}
use Rattle.xs_coarse_net.specs.Going.{LeafGoes}
use Rattle.xs_coarse_net.specs.Whole.{place_state, ItemLaid, PlaceLaid, IsEnclosed}

-- no outer item is a left fence
outer_not_left : (g : Grammar) (p k m : ℕ) (i : GItem) → IsPartner g.fences (spread g p) k m → OuterAt g.fences (spread g p) k i → ⊥
outer_not_left g p k m i partner at = left_not_plain partner.group.fence (subst (λ (x : GItem). IsPlain g.fences x) (same_Some _ _ (sym (outer_at at) ∙ left_at partner.group)) at.plain)

pub place_group : (g : Grammar) (t : Table) (n : Net) (p k m from to : ℕ) → IsProper g → IsPartner g.fences (spread g p) k m → from ≡ place_state g p k → to ≡ place_state g p (m + 1) → HasArc n from (group_label t (group_number g p k)) to → PlaceLaid g t n p k
place_group g t n p k m from to proper partner a b arc = record {
  leaves = λ i at leaf. absurd (outer_not_left g p k m i partner at);
  enters = λ j s at. absurd (outer_not_left g p k m (Non j s) partner at);
  returns = λ j s at. absurd (outer_not_left g p k m (Non j s) partner at);
  groups = λ j l r inside at.
      let same : partner.inside ≡ inside = inside_once g.fences proper.once (spread g p) k m j partner.left partner.right l r partner.inside inside partner.group at.group in
      let next : m + 1 ≡ suc j = omega (arith, partner.group.partner, at.group.partner, ap length same) in
      subst (λ (x : ℕ). HasArc n (place_state g p k) (group_label t (group_number g p k)) (place_state g p x)) next (subst (λ (x : ℕ). HasArc n (place_state g p k) (group_label t (group_number g p k)) x) b (subst (λ (x : ℕ). HasArc n x (group_label t (group_number g p k)) to) a arc));
}

leaf_laid : (g : Grammar) (t : Table) (n : Net) (own : ℕ) (i : GItem) (a b : ℕ) → IsPlain g.fences i → IsLeaf i → ItemLaid g t n own i a b → LeafGoes g t n i a b
leaf_laid g t n own (Fixed f) a b plain leaf h = h plain
leaf_laid g t n own (Term k s) a b plain leaf h = h
leaf_laid g t n own (Non m s) a b plain leaf h = absurd leaf
leaf_laid g t n own (Skip k) a b plain leaf h = h

pub place_item : (g : Grammar) (t : Table) (n : Net) (p k from to : ℕ) (i : GItem) → k < length (spread g p) → i ≡ get_or (spread g p) k i → (IsLeftFence g.fences (spread g p) k → ⊥) → from ≡ place_state g p k → to ≡ place_state g p (k + 1) → ItemLaid g t n (rule_of g p).non i from to → PlaceLaid g t n p k
place_item g t n p k from to i low is none a b h = record {
  leaves = λ j at leaf. leaf_laid g t n (rule_of g p).non j (place_state g p k) (place_state g p (suc k)) at.plain leaf (laid j at);
  enters = λ m s at. (laid (Non m s) at).0;
  returns = λ m s at. (laid (Non m s) at).1;
  groups = λ j l r inside at. absurd (none (left_opens at.group));
}
  where
    next : k + 1 ≡ suc k
    next = omega arith

    here : ItemLaid g t n (rule_of g p).non i (place_state g p k) (place_state g p (suc k))
    here = subst (λ (x : ℕ). ItemLaid g t n (rule_of g p).non i (place_state g p k) (place_state g p x)) next (subst (λ (x : ℕ). ItemLaid g t n (rule_of g p).non i (place_state g p k) x) b (subst (λ (x : ℕ). ItemLaid g t n (rule_of g p).non i x to) a h))

    laid : (j : GItem) → OuterAt g.fences (spread g p) k j → ItemLaid g t n (rule_of g p).non j (place_state g p k) (place_state g p (suc k))
    laid j at = subst (λ (x : GItem). ItemLaid g t n (rule_of g p).non x (place_state g p k) (place_state g p (suc k))) (same_Some _ _ (sym (slice_get-get_or (spread g p) k i low ∙ ap (λ (x : GItem). Some x) (sym is)) ∙ outer_at at)) here

-- at a place whose cut does not begin with the rule, the items before are not level
pub cut_enclosed : CutsAreOne → (g : Grammar) → IsProper g → (p k start end : ℕ) → CutsAt g.fences (spread g p) k start end → start ≢ 0 → IsEnclosed g p k
cut_enclosed law g proper p k start end cut ne before rest split place level =
    let within : k ≤ length (spread g p) = omega (arith, place, ap length split, length-append before rest) in
    let one = law g proper p k within in
    let own : IsCut g.fences (spread g p) k before rest = cut_here level (level_rest g.fences proper.once rest level (subst (λ (is : List GItem). IsLevel g.fences is) split (proper.level p))) split place in
    let first = (one.only before rest own).0 in
    let second = (one.only _ _ cut.cut).0 in
    let same : slice_range (spread g p) start k ≡ before = second ∙ sym first in
    let long : length (slice_range (spread g p) start k) ≡ k - start = length-take-le (k - start) (drop start (spread g p)) (omega (arith, within, length-drop start (spread g p))) in
    ne (omega (arith, cut.low, place, ap length same, long))

pub place_enclosed : (g : Grammar) (t : Table) (n : Net) (p k : ℕ) → IsEnclosed g p k → PlaceLaid g t n p k
place_enclosed g t n p k none = record {
  leaves = λ i at leaf. absurd (none at.before _ at.split at.place at.level);
  enters = λ m s at. absurd (none at.before _ at.split at.place at.level);
  returns = λ m s at. absurd (none at.before _ at.split at.place at.level);
  groups = λ m l r inside at. absurd (none at.group.before _ at.group.split at.group.place at.level);
}
