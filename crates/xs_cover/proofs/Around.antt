-- What complete tables say: least sizes.
use Rattle.std.proofs.Common.{◌≡◌, inl, inr, ℕ, zero, suc, ◌+◌, ◌-◌, ◌<◌, ◌≤◌, List, [], ◌∷◌, length, refl, sym, subst, ap, arith, Some, None, true, slice_get}
use Rattle.std.specs.Prelude.{nat_le}
use Rattle.std.proofs.lemmas.Bool.{cases_lt}
use Rattle.xs_class.proofs.Truth.{le_is, le_true}
use Rattle.xs_gram.specs.declared.parts.GItem.{GItem}
use Rattle.xs_gram.specs.declared.parts.GItem.TheVariants.{Fixed, Term, Non, Skip}
use Rattle.xs_gram.specs.Grammar.{Grammar, rule_of, items, slots, ItemAt}
use Rattle.xs_gram.specs.Common.{Common, Kind, word, made, of_term, of_non, lookup, kinds, TreeFits, KidFits}
use Rattle.xs_gram.specs.Laws.{Every, IsNumbered, HasNumberedSlots}
use Rattle.xs_gram.specs.Sound.{IsSound}
use Rattle.xs_gram.proofs.Printed.{keys-kinds, kinds_long}
use Rattle.xs_pair.specs.Grammars.{Pair}
use Rattle.xs_pair.specs.Sound.{IsSoundPair}
use Rattle.xs_tree.specs.Flat.{tree_at}
use Rattle.xs_cover.specs.declared.prices.Prices.{Prices}
use Rattle.xs_cover.specs.declared.contexts.Contexts.{Contexts}
use Rattle.xs_cover.specs.declared.contexts.Step.{Step}
use Rattle.xs_cover.specs.Sizes.{capped, weight, own_length, Uses, Shows, IsLeast}
use Rattle.xs_cover.specs.Costs.{Costs, kind_cost, slots_cost, rule_cost, AreClosed}
use Rattle.xs_cover.specs.Tables.{at}
use Rattle.xs_cover.specs.Prices.{costs_in, costs_of}
use Rattle.xs_cover.specs.Steps.{step_at, IsStep}
use Rattle.xs_cover.specs.Kept.{AreComplete}
use Rattle.xs_cover.proofs.Costs.{cost_at, node_low, kids_low, closed_costs_are_low_lem}
use Rattle.xs_cover.proofs.Least.{costs_are_least_lem}
use Rattle.xs_cover.proofs.Reached.{unreached_is_not_shown_lem}
use Rattle.xs_cover.proofs.Filling.{fill, but, IsChoice, IsAroundTree, node_filled, node_around, kind_at}
use Rattle.xs_cover.proofs.Existing.{KindIn, kind_in, key_there, choose, some_tree, as_kid}

-- what slots cost does not depend on what stands around
same_slots : (terms nons a b : List ℕ) (is : List GItem) → slots_cost (costs_in terms nons a) is ≡ slots_cost (costs_in terms nons b) is
same_slots terms nons a b [] = refl
same_slots terms nons a b (Fixed f ∷ is) = same_slots terms nons a b is
same_slots terms nons a b (Term t s ∷ is) = ap (λ n. at terms t + n) (same_slots terms nons a b is)
same_slots terms nons a b (Non m s ∷ is) = ap (λ n. at nons m + n) (same_slots terms nons a b is)
same_slots terms nons a b (Skip k ∷ is) = same_slots terms nons a b is

pub same_rule : (g h : Grammar) (terms nons a b : List ℕ) (q : ℕ) → rule_cost g h (costs_in terms nons a) q ≡ rule_cost g h (costs_in terms nons b) q
same_rule g h terms nons a b q = ap (λ n. own_length g h q + n) (same_slots terms nons a b (items g q))

-- a nonterminal costs no more than the slots of a rule in which it is
pub item_cheap : (c : Costs) (is : List GItem) (n m s : ℕ) → slice_get is n ≡ Some (Non m s) → c.nons m ≤ slots_cost c is
item_cheap c [] n m s e = absurd (nothing e)
  where
    nothing : {i : GItem} → None ≡ Some i → ⊥
    nothing e = cc
item_cheap c (i ∷ is) zero m s e = first i (head i e)
  where
    head : (i : GItem) → Some i ≡ Some (Non m s) → i ≡ Non m s
    head i e = cc

    first : (i : GItem) → i ≡ Non m s → c.nons m ≤ slots_cost c (i ∷ is)
    first i e = subst (λ j. c.nons m ≤ slots_cost c (j ∷ is)) (sym e) (omega arith)
item_cheap c (Fixed f ∷ is) (suc n) m s e = item_cheap c is n m s e
item_cheap c (Term t k ∷ is) (suc n) m s e = omega (arith, item_cheap c is n m s e)
item_cheap c (Non j k ∷ is) (suc n) m s e = omega (arith, item_cheap c is n m s e)
item_cheap c (Skip k ∷ is) (suc n) m s e = item_cheap c is n m s e

-- a slot that is found is one of the slots
pub slot_below : (is : List GItem) (s : ℕ) (kind : Kind) → IsNumbered (slots is) → lookup s (kinds is) ≡ Some kind → s < length (kinds is)
slot_below is s kind numbered e = omega (arith, kinds_long is, key_there (λ n. n < length (slots is)) (kinds is) s kind (subst (Every (λ n. n < length (slots is))) (sym (keys-kinds is)) numbered.below) e)

-- what a tree weighs in which another stands, by what stands between
put_light : (outer node inner rule non parent cost : ℕ) → capped outer ≤ parent + capped node → capped node + non ≤ rule + capped inner → non ≤ inner → non ≤ 1000000000 → cost ≡ capped (parent + (capped rule - non)) → capped outer ≤ cost + capped inner
put_light outer node inner rule non parent cost a b low most e = omega (arith, a, b, low, most, e)

-- the tree is of the kind, and weighs no more than the kind costs
abbrev Suits : Grammar → Grammar → Prices → Kind → Common → Type 0
Suits g h p kind t = KidFits g (Some kind) t × (capped (weight g h t) ≤ kind_cost (costs_of p) (Some kind))

module _ (g h : Grammar) (p : Prices) (numbers : List ℕ) (trees : List Common) (cs : Contexts) (sound : IsSound g) (complete : AreComplete g h p numbers trees cs) where
  all_costs : Costs
  all_costs = costs_in p.terms.items p.nons.items cs.arounds.items

  pub rule_same : (q : ℕ) → rule_cost g h (costs_in p.terms.items p.nons.items cs.arounds.items) q ≡ rule_cost g h (costs_of p) q
  rule_same q = same_rule g h p.terms.items p.nons.items cs.arounds.items [] q

  hole_closed : (q n m s : ℕ) → q < length g.rules → ItemAt g q n (Non m s) → at cs.arounds.items m + at p.nons.items m ≤ at cs.arounds.items (rule_of g q).non + rule_cost g h (costs_of p) q
  hole_closed q n m s there item = elim (cases_lt 1000000000 (at cs.arounds.items (rule_of g q).non)) [
    | inl far ↦ omega (arith, far, complete.contexts.low m, item_cheap (costs_of p) (items g q) n m s item)
    | inr near ↦ omega (arith, complete.passed q there near n m s item, item_cheap (costs_of p) (items g q) n m s item, complete.have.low m)
  ]

  -- the costs are closed
  pub costs_closed : AreClosed g h (costs_in p.terms.items p.nons.items cs.arounds.items)
  costs_closed = record {
    words = complete.low;
    rules = λ q there. omega (arith, complete.closed q there, rule_same q);
    start = complete.contexts.start;
    holes = λ q n m s there item. omega (arith, hole_closed q n m s there item, rule_same q);
  }

  -- a tree weighs at least what its nonterminal costs
  pub tree_low : (m : ℕ) (t : Common) → TreeFits g m t → at p.nons.items m ≤ weight g h t
  tree_low m (word w) fits = absurd fits
  tree_low m (made q kids) fits =
      let c = costs_in p.terms.items p.nons.items cs.arounds.items in
      let low : rule_cost g h c q ≤ weight g h (made q kids) = node_low g h c q kids sound.built.slots fits.1 (kids_low g h c (items g q) 0 kids sound.built.slots costs_closed fits.1) in
      omega (arith, low, costs_closed.rules q fits.0.0, ap (at p.nons.items) fits.0.1)

  tree_for : (kind : Kind) → KindIn g kind → (t : Common) × Suits g h p kind t
  tree_for (of_term t) there = let s = complete.have.leaves t there in (tree_at trees t, (s.fits, s.light))
  tree_for (of_non n) there = elim (cases_lt (at p.nons.items n) 1000000000) [
    | inl less ↦ let s = complete.have.nodes n there less in (tree_at trees (at numbers n), (s.fits, s.light))
    | inr full ↦ let t = some_tree g sound n there in (t.0, (t.1, omega (arith, full)))
  ]

  -- what may stand at the slots of a rule
  pub choice_of : (q : ℕ) → (f : ℕ → Common) × IsChoice g h (costs_of p) (items g q) f
  choice_of q =
      let es = kinds (items g q) in
      let pick = λ (s : ℕ). choose (Suits g h p) (lookup s es) (λ kind e. tree_for kind (kind_in g sound.built.range q s kind e)) in
      let at_slot : (s : ℕ) → s < length es → (kind : Kind) × (lookup s es ≡ Some kind) = kind_at (items g q) (sound.built.slots q) in (
        (λ s. (pick s).0),
        record {
          fits = λ s l. subst (λ o. KidFits g o (pick s).0) (sym (at_slot s l).1) ((pick s).1 (at_slot s l).0 (at_slot s l).1).0;
          light = λ s l. subst (λ o. capped (weight g h (pick s).0) ≤ kind_cost (costs_of p) o) (sym (at_slot s l).1) ((pick s).1 (at_slot s l).0 (at_slot s l).1).1;
        },
      )

  -- the tree stands in one that fits the start
  pub record IsPut (cost : ℕ) (t : Common) : Type 0 where
    pub tree : Common
    pub fits : TreeFits g g.start tree
    pub uses : (q : ℕ) → Uses t q → Uses tree q
    pub light : capped (weight g h tree) ≤ cost + capped (weight g h t)

  -- what a node weighs in whose slot the tree stands
  pub node_with : (s : Step) (t : Common) (f : ℕ → Common) → IsChoice g h (costs_of p) (items g s.rule) f → lookup s.slot (kinds (items g s.rule)) ≡ Some (of_non s.non) → TreeFits g s.non t
      → IsAroundTree g h (costs_of p) s.rule s.slot t (fill (but s.slot t f) 0 (length (kinds (items g s.rule))))
  node_with s t f choice found fits = node_around g h (costs_of p) s.rule s.slot (of_non s.non) t f sound.built.slots choice found (slot_below (items g s.rule) s.slot (of_non s.non) (sound.built.slots s.rule) found) (as_kid g s.non t fits)

  put : (fuel i : ℕ) (t : Common) → i < fuel → i < length cs.steps.items → TreeFits g (step_at cs.steps.items i).non t → IsPut (step_at cs.steps.items i).cost t
  put zero i t less there fits = absurd (omega (arith, less))
  put (suc fuel) zero t less there fits = record {
    tree = t;
    fits = subst (λ n. TreeFits g n t) complete.contexts.are.first fits;
    uses = λ q uses. uses;
    light = omega arith;
  }
  put (suc fuel) (suc i) t less there fits =
      let s = step_at cs.steps.items (suc i) in
      let step : IsStep g h p cs.steps.items (suc i) s = complete.contexts.are.others (suc i) (omega arith) there in
      let choice = choice_of s.rule in
      let node = node_with s t choice.0 choice.1 step.found fits in
      let outer : Common = made s.rule (fill (but s.slot t choice.0) 0 (length (kinds (items g s.rule)))) in
      let above : IsPut (step_at cs.steps.items s.parent).cost outer = put fuel s.parent outer (omega (arith, step.below, less)) (omega (arith, step.below, there)) ((step.there, step.of), node.fits) in
      let slot : cost_at (costs_of p) (items g s.rule) s.slot ≡ at p.nons.items s.non = ap (λ o. kind_cost (costs_of p) o) step.found in
      record {
        tree = above.tree;
        fits = above.fits;
        uses = λ q uses. above.uses q (inr (node.uses q uses));
        light = put_light (weight g h above.tree) (weight g h outer) (weight g h t) (rule_cost g h (costs_of p) s.rule) (at p.nons.items s.non) (step_at cs.steps.items s.parent).cost s.cost above.light (omega (arith, node.light, slot)) (tree_low s.non t fits) (complete.have.low s.non) step.costs;
      }

  -- around a tree of a nonterminal that is reached stands what it costs at most
  pub put_in : (m : ℕ) (t : Common) → m < g.nons → at cs.arounds.items m ≤ 1000000000 → TreeFits g m t → IsPut (at cs.arounds.items m) t
  put_in m t there near fits =
      let to = complete.contexts.reached m there near in
      let placed = put (suc (at cs.places.items m)) (at cs.places.items m) t (omega arith) to.there (subst (λ n. TreeFits g n t) (sym to.to) fits) in
      record { tree = placed.tree; fits = placed.fits; uses = placed.uses; light = omega (arith, placed.light, to.costs) }

  -- the least size of a tree that shows a production of a nonterminal that is reached
  pub reached_least : HasNumberedSlots h → ((u : Common) → TreeFits g g.start u → TreeFits h h.start u) → (q : ℕ) → q < length g.rules → at cs.arounds.items (rule_of g q).non ≤ 1000000000 → IsLeast g h q (capped (at cs.arounds.items (rule_of g q).non + rule_cost g h (costs_of p) q))
  reached_least nh same q there near =
      let c = costs_in p.terms.items p.nons.items cs.arounds.items in
      let choice = choice_of q in
      let node = node_filled g h (costs_of p) q choice.0 sound.built.slots choice.1 in
      let t : Common = made q (fill choice.0 0 (length (kinds (items g q)))) in
      let placed = put_in (rule_of g q).non t (sound.built.range.rules q there) near ((there, refl), node.fits) in
      let shows : Shows g q placed.tree = record { fits = placed.fits; uses = placed.uses q (inl refl) } in
      let low : at cs.arounds.items (rule_of g q).non + rule_cost g h c q ≤ weight g h placed.tree = closed_costs_are_low_lem g h c q placed.tree sound.built.slots costs_closed shows in
      let attained : capped (weight g h placed.tree) ≡ capped (at cs.arounds.items (rule_of g q).non + rule_cost g h c q) = omega (arith, low, placed.light, node.light, rule_same q) in
      subst (λ n. IsLeast g h q (capped (at cs.arounds.items (rule_of g q).non + n))) (rule_same q) (costs_are_least_lem g h c q placed.tree sound.built.slots nh same costs_closed shows attained)

  -- no tree shows a production of a nonterminal that is not reached
  pub unreached : (q : ℕ) (t : Common) → 1000000000 < at cs.arounds.items (rule_of g q).non → Shows g q t → ⊥
  unreached q t far shows =
      let has = λ (n : ℕ). nat_le (at cs.arounds.items n) 1000000000 in
      let start : has g.start ≡ true = le_true (at cs.arounds.items g.start) 1000000000 (omega (arith, complete.contexts.start)) in
      let kept : (r n m s : ℕ) → r < length g.rules → has (rule_of g r).non ≡ true → ItemAt g r n (Non m s) → has m ≡ true = λ r n m s there is item.
      le_true (at cs.arounds.items m) 1000000000 (omega (arith, complete.passed r there (le_is (at cs.arounds.items (rule_of g r).non) 1000000000 is) n m s item)) in
      let is : has (rule_of g q).non ≡ true = unreached_is_not_shown_lem g has q t start kept shows in
      omega (arith, far, le_is (at cs.arounds.items (rule_of g q).non) 1000000000 is)

-- a tree that fits the start of one side fits that of the other
pub same_starts : (two : Pair) → IsSoundPair two → (u : Common) → TreeFits two.text two.text.start u → TreeFits two.xml two.xml.start u
same_starts two sound u fits = subst (λ n. TreeFits two.xml n u) sound.starts ((sound.same two.text.start u).0 fits)
