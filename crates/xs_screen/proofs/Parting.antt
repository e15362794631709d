-- Groups that are settled stay so where other groups are parted.
use Rattle.std.proofs.Common.{◌≡◌, ◌≢◌, ℕ, zero, suc, ◌<◌, Bool, true, false, List, [], ◌∷◌, length, get_or, set, refl, sym, ap, subst, ◌∙◌, arith, inl, inr}
use Rattle.std.proofs.lemmas.Bool.{cases_lt}
use Rattle.std.proofs.lemmas.List.{get_or-set_other, length-map}
use Rattle.std.proofs.lemmas.Option.{same_Some, slice_get-map, slice_get_within}
use Rattle.std.specs.declared.option.Option.{Option}
use Rattle.std.specs.declared.option.Option.TheVariants.{Some}
use Rattle.std.specs.Prelude.{slice_get, option_map}
use Rattle.xs_class.proofs.Lists.{one_cell}
use Rattle.xs_auto.specs.Nets.{Graph}
use Rattle.xs_auto.specs.Nests.{Group, IsGroup}
use Rattle.xs_meet.specs.Closed.{AreSettled, IsSettled, AreApart, Marked}
use Rattle.xs_coarse.specs.Coarse.{Table, MayCall, may_meet, group_label, label_count}
use Rattle.xs_coarse.specs.Labels.{parted, cell}
use Rattle.xs_coarse_net.specs.declared.cover.Content.{Content}
use Rattle.xs_coarse_net.specs.Contents.{group_of, nest_of}
use Rattle.xs_coarse_net.specs.Covers.{cover_view}
use Rattle.xs_coarse.proofs.PartLemmas.{apart_fewer, call_part}
use Rattle.xs_screen.specs.Parting.{Parts, AreBothSettled, IsRowSettled, StaySettled, AreTheTwo}

module _ (t : Table) (f s : ℕ) (low_f : f < t.groups) (low_s : s < t.groups) where
  low : (h : ℕ) → h < t.groups → group_label t h < label_count t
  low h below = omega (arith, below)

  same_group : {h k : ℕ} → group_label t h ≡ group_label t k → h ≡ k
  same_group e = omega (arith, e)

  -- other groups may call as before
  call_other : (h k : ℕ) → h < t.groups → k < t.groups → (AreTheTwo f s h k → ⊥) → (AreTheTwo s f h k → ⊥) → may_meet (parted t f s) (group_label t h) (group_label t k) ≡ may_meet t (group_label t h) (group_label t k)
  call_other h k low_h low_k not_these nor_those =
      let w = label_count t in
      let here = cell t (group_label t h) (group_label t k) in
      let one = cell t (group_label t f) (group_label t s) in
      let two = cell t (group_label t s) (group_label t f) in
      let beside_one : here ≢ one = λ e. let p = one_cell w (group_label t h) (group_label t k) (group_label t f) (group_label t s) (low k low_k) (low s low_s) e in not_these (same_group p.0, same_group p.1) in
      let beside_two : here ≢ two = λ e. let p = one_cell w (group_label t h) (group_label t k) (group_label t s) (group_label t f) (low k low_k) (low f low_f) e in nor_those (same_group p.0, same_group p.1) in
      get_or-set_other (set t.bits one false) two here false false beside_two ∙ get_or-set_other t.bits one here false false beside_one

-- a bit that is set was set before another was taken away
unset : (bits : List Bool) (i j : ℕ) → get_or (set bits i false) j false ≡ true → get_or bits j false ≡ true
unset [] i j e = e
unset (b ∷ bits) zero zero e = cc
unset (b ∷ bits) zero (suc j) e = e
unset (b ∷ bits) (suc i) zero e = e
unset (b ∷ bits) (suc i) (suc j) e = unset bits i j e

pub parts : (t : Table) (f s : ℕ) → Parts t (parted t f s)
parts t f s = record {
  parted = record {
    classes = refl;
    fewer = λ l k e. unset t.bits (cell t (group_label t f) (group_label t s)) (cell t l k) (unset (set t.bits (cell t (group_label t f) (group_label t s)) false) (cell t (group_label t s) (group_label t f)) (cell t l k) e);
  };
  groups = refl;
}

pub parts_none : (t : Table) → Parts t t
parts_none t = record { parted = record { classes = refl; fewer = λ l k e. e }; groups = refl }

pub parts_on : {s t u : Table} → Parts s t → Parts t u → Parts s u
parts_on p q = record { parted = record { classes = q.parted.classes ∙ p.parted.classes; fewer = λ l k e. p.parted.fewer l k (q.parted.fewer l k e) }; groups = q.groups ∙ p.groups }

-- there is no group beyond the contents
pub group_low : (contents : List Content) (t : Table) (h : ℕ) (a : Group) → IsGroup (nest_of t contents) h a → h < length contents
group_low contents t h a is = omega (arith, slice_get_within (nest_of t contents) h a is, length-map {B = Group} contents)

settled_other : (contents : List Content) (t : Table) (f s h k : ℕ) → length contents ≡ t.groups → f < t.groups → s < t.groups → (AreTheTwo f s h k → ⊥) → (AreTheTwo s f h k → ⊥) → AreSettled (nest_of t contents) (MayCall t) h k → AreSettled (nest_of (parted t f s) contents) (MayCall (parted t f s)) h k
settled_other contents t f s h k counted low_f low_s other turned settled a b is_a is_b fence =
    let low_h : h < t.groups = omega (arith, counted, group_low contents t h a is_a) in
    let low_k : k < t.groups = omega (arith, counted, group_low contents t k b is_b) in
    elim (settled a b is_a is_b fence) [
      | inl r ↦ inl (call_other t f s low_f low_s h k low_h low_k other turned ∙ r)
      | inr z ↦ inr (z.0, apart_fewer (MayCall t) (MayCall (parted t f s)) a.content b.content (Marked z.0) (λ x y. call_part x y (parts t f s).parted) z.1)
    ]

-- other groups stay settled
pub stay_parted : (contents : List Content) (t : Table) (f s : ℕ) → length contents ≡ t.groups → f < s → s < t.groups → StaySettled contents t (parted t f s) (AreTheTwo f s)
stay_parted contents t f s counted order low_s h k ordered other both =
    let low_f : f < t.groups = omega (arith, order, low_s) in
    record {
      one = settled_other contents t f s h k counted low_f low_s other (λ e. omega (arith, order, ordered, e.0, e.1)) both.one;
      other = settled_other contents t f s k h counted low_f low_s (λ e. omega (arith, order, ordered, e.0, e.1)) (λ e. other (e.1, e.0)) both.other;
    }

-- the group of a number is that of the content there
group_is : (contents : List Content) (t : Table) (h : ℕ) (a : Group) (c : Content) → slice_get contents h ≡ Some c → IsGroup (nest_of t contents) h a → a ≡ group_of t c
group_is contents t h a c at is = same_Some _ _ (sym is ∙ slice_get-map (group_of t) contents h ∙ ap (λ (o : Option Content). option_map (group_of t) o) at)

apart_settled : (contents : List Content) (t : Table) (f s h k : ℕ) (a b : Content) → slice_get contents h ≡ Some a → slice_get contents k ≡ Some b → AreApart (MayCall t) (cover_view t a.cover) (cover_view t b.cover) → AreSettled (nest_of (parted t f s) contents) (MayCall (parted t f s)) h k
apart_settled contents t f s h k a b at_a at_b z m n is_m is_n fence =
    let first = ap (λ (x : Group). x.content) (group_is contents t h m a at_a is_m) in
    let second = ap (λ (x : Group). x.content) (group_is contents t k n b at_b is_n) in
    let apart : AreApart (MayCall t) m.content n.content = subst (λ (x : Graph). AreApart (MayCall t) x n.content) (sym first) (subst (λ (x : Graph). AreApart (MayCall t) (cover_view t a.cover) x) (sym second) z) in
    inr (apart.0, apart_fewer (MayCall t) (MayCall (parted t f s)) m.content n.content (Marked apart.0) (λ x y. call_part x y (parts t f s).parted) apart.1)

-- two groups whose contents are apart are settled once they are parted
pub parted_settled : (contents : List Content) (t : Table) (f s : ℕ) (a b : Content) → slice_get contents f ≡ Some a → slice_get contents s ≡ Some b → AreApart (MayCall t) (cover_view t a.cover) (cover_view t b.cover) → AreApart (MayCall t) (cover_view t b.cover) (cover_view t a.cover) → AreBothSettled contents (parted t f s) f s
parted_settled contents t f s a b at_a at_b one other = record {
  one = apart_settled contents t f s f s a b at_a at_b one;
  other = apart_settled contents t f s s f b a at_b at_a other;
}

-- rows of settled groups are all groups
pub rows_settled : (contents : List Content) (t : Table) → ((h : ℕ) → h < length contents → IsRowSettled contents t h (length contents)) → IsSettled (nest_of t contents) (MayCall t)
rows_settled contents t rows h k a b is_a is_b fence =
    let low_h = group_low contents t h a is_a in
    let low_k = group_low contents t k b is_b in
    elim (cases_lt k h) [
      | inl less ↦ (rows k low_k h (omega (arith, less)) low_h).other a b is_a is_b fence
      | inr more ↦ (rows h low_h k more low_k).one a b is_a is_b fence
    ]
