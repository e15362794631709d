-- From a node of a production up to the start, by the steps that lead there.
use Rattle.std.proofs.Common.{◌≡◌, ◌≢◌, ◌⊎◌, inl, inr, ℕ, ◌==◌, true, false, ◌+◌, ◌-◌, ◌<◌, ◌≤◌, List, [], ◌∷◌, ◌++◌, length, length-append, All, refl, sym, subst, ◌∙◌, ap, arith, Some, set, take, slice_get, zero, suc}
use Rattle.std.proofs.lemmas.Bool.{cases_lt}
use Rattle.std.proofs.lemmas.Bool.Decides.{eqb_tells}
use Rattle.std.proofs.lemmas.List.{get_or-set_same, get_or-set_other}
use Rattle.std.proofs.lemmas.List.Elements.{All-get_or, All-from_get_or}
use Rattle.std.proofs.lemmas.Option.{same_Some, none-some}
use Rattle.std.proofs.Math.ListN.{length-set}
use Rattle.std.proofs.Math.Seq.{get_or-append_seam}
use Rattle.xs_gram.specs.Grammar.{Grammar, rule_of, items}
use Rattle.xs_gram.specs.Common.{Common, word, made, of_non, TreeFits}
use Rattle.xs_gram.specs.Laws.{HasNumberedSlots}
use Rattle.xs_gram.specs.Sound.{IsSound}
use Rattle.xs_tree.specs.Flat.{tree_at, kids_at}
use Rattle.xs_cover.specs.declared.prices.Prices.{Prices}
use Rattle.xs_cover.specs.declared.contexts.Contexts.{Contexts}
use Rattle.xs_cover.specs.Sizes.{capped, size, weight, Uses, IsLeast, IsLeastTree}
use Rattle.xs_cover.specs.Costs.{kind_cost, rule_cost}
use Rattle.xs_cover.specs.Tables.{at}
use Rattle.xs_cover.specs.Prices.{costs_of, HaveTrees, AreKids}
use Rattle.xs_cover.specs.Steps.{step_at, IsStep}
use Rattle.xs_cover.specs.Kept.{AreComplete, HoldsAt}
use Rattle.xs_cover.proofs.Costs.{cost_at}
use Rattle.xs_cover.proofs.Sizes.{sizes_add_lem}
use Rattle.xs_cover.proofs.Filling.{IsFilled, IsAroundTree}
use Rattle.xs_cover.proofs.Around.{slot_below, tree_low, reached_least, unreached, node_with}
use Rattle.xs_cover.proofs.Showing.{have_on, node_made, kids_chosen, kids_but}

module _ (g h : Grammar) (p : Prices) (numbers : List ℕ) (known : List Common) (cs : Contexts) (sound : IsSound g) (complete : AreComplete g h p numbers known cs) where
  -- a node of the production itself
  pub holds_first : (rule most : ℕ) (trees : List Common) (kids : List ℕ) → rule < length g.rules → HaveTrees g h trees p.terms.items p.nons.items numbers → AreKids numbers (items g rule) kids → at cs.arounds.items (rule_of g rule).non + rule_cost g h (costs_of p) rule ≤ most → most ≤ 4096
      → HoldsAt g h p numbers cs.steps.items rule most (at cs.places.items (rule_of g rule).non) (trees ++ made rule (kids_at trees kids) ∷ []) (length trees)
  holds_first rule most trees kids there have are low short =
      let to = complete.contexts.reached (rule_of g rule).non (sound.built.range.rules rule there) (omega (arith, low, short)) in
      let node : IsFilled g h rule (kids_at trees kids) (rule_cost g h (costs_of p) rule) = node_made g h p.terms.items p.nons.items numbers trees sound have rule (omega (arith, low, short)) kids are in
      let t : Common = made rule (kids_at trees kids) in
      let last : tree_at (trees ++ t ∷ []) (length trees) ≡ t = get_or-append_seam trees t [] (word []) in
      record {
        have = have_on g h trees (t ∷ []) p.terms.items p.nons.items numbers have;
        on = to.there;
        there = omega (arith, length-append trees (t ∷ []));
        fits = subst (λ n. TreeFits g n (tree_at (trees ++ t ∷ []) (length trees))) (sym to.to) (subst (λ u. TreeFits g (rule_of g rule).non u) (sym last) ((there, refl), node.fits));
        uses = subst (λ u. Uses u rule) (sym last) (inl refl);
        light = omega (arith, to.costs, ap (λ u. capped (weight g h u)) last, node.light, low);
      }

  -- what the rule of a step costs, where little stands around
  step_cheap : (cost parent rule non inner most : ℕ) → cost ≡ capped (parent + (capped rule - non)) → cost + capped inner ≤ most → most ≤ 4096 → non ≤ inner → non ≤ 1000000000 → rule < 1000000000
  step_cheap cost parent rule non inner most is light short low most_non = omega (arith, is, light, short, low, most_non)

  step_light : (cost parent rule non inner outer most : ℕ) → cost ≡ capped (parent + (capped rule - non)) → cost + capped inner ≤ most → most ≤ 4096 → non ≤ inner → non ≤ 1000000000 → capped outer + non ≤ rule + capped inner → parent + capped outer ≤ most
  step_light cost parent rule non inner outer most is light short low most_non around = omega (arith, is, light, short, low, most_non, around)

  pub step_rule_cheap : (rule most place number : ℕ) (trees : List Common) → most ≤ 4096 → 0 < place → HoldsAt g h p numbers cs.steps.items rule most place trees number → rule_cost g h (costs_of p) (step_at cs.steps.items place).rule < 1000000000
  step_rule_cheap rule most place number trees short some holds =
      let s = step_at cs.steps.items place in
      let step : IsStep g h p cs.steps.items place s = complete.contexts.are.others place some holds.on in
      step_cheap s.cost (step_at cs.steps.items s.parent).cost (rule_cost g h (costs_of p) s.rule) (at p.nons.items s.non) (weight g h (tree_at trees number)) most step.costs holds.light short (tree_low g h p numbers known cs sound complete s.non (tree_at trees number) holds.fits) (complete.have.low s.non)

  -- a node around it
  pub holds_next : (rule most place number : ℕ) (trees : List Common) (kids : List ℕ) → most ≤ 4096 → 0 < place → HoldsAt g h p numbers cs.steps.items rule most place trees number → AreKids numbers (items g (step_at cs.steps.items place).rule) kids
      → HoldsAt g h p numbers cs.steps.items rule most (step_at cs.steps.items place).parent (trees ++ made (step_at cs.steps.items place).rule (kids_at trees (set kids (step_at cs.steps.items place).slot number)) ∷ []) (length trees)
  holds_next rule most place number trees kids short some holds are =
      let s = step_at cs.steps.items place in
      let inner = tree_at trees number in
      let step : IsStep g h p cs.steps.items place s = complete.contexts.are.others place some holds.on in
      let below = slot_below (items g s.rule) s.slot (of_non s.non) (sound.built.slots s.rule) step.found in
      let cheap = step_rule_cheap rule most place number trees short some holds in
      let f = λ (j : ℕ). tree_at trees (at kids j) in
      let node = node_with g h p numbers known cs sound complete s inner f (kids_chosen g h p.terms.items p.nons.items numbers trees sound holds.have s.rule cheap kids are) step.found holds.fits in
      let kids_are = kids_but g h p.terms.items p.nons.items numbers trees sound holds.have s.rule cheap kids are s.slot number below in
      let node_kids : IsAroundTree g h (costs_of p) s.rule s.slot inner (kids_at trees (set kids s.slot number)) = subst (λ ks. IsAroundTree g h (costs_of p) s.rule s.slot inner ks) (sym kids_are) node in
      let t : Common = made s.rule (kids_at trees (set kids s.slot number)) in
      let last : tree_at (trees ++ t ∷ []) (length trees) ≡ t = get_or-append_seam trees t [] (word []) in
      let slot : cost_at (costs_of p) (items g s.rule) s.slot ≡ at p.nons.items s.non = ap (λ o. kind_cost (costs_of p) o) step.found in
      let light : (step_at cs.steps.items s.parent).cost + capped (weight g h t) ≤ most = step_light s.cost (step_at cs.steps.items s.parent).cost (rule_cost g h (costs_of p) s.rule) (at p.nons.items s.non) (weight g h inner) (weight g h t) most step.costs holds.light short (tree_low g h p numbers known cs sound complete s.non inner holds.fits) (complete.have.low s.non) (omega (arith, node_kids.light, slot)) in
      record {
        have = have_on g h trees (t ∷ []) p.terms.items p.nons.items numbers holds.have;
        on = omega (arith, step.below, holds.on);
        there = omega (arith, length-append trees (t ∷ []));
        fits = subst (λ u. TreeFits g (step_at cs.steps.items s.parent).non u) (sym last) ((step.there, step.of), node_kids.fits);
        uses = subst (λ u. Uses u rule) (sym last) (inr (node_kids.uses rule holds.uses));
        light = omega (arith, ap (λ u. capped (weight g h u)) last, light);
      }

  -- a tree of the start
  pub holds_last : HasNumberedSlots h → ((u : Common) → TreeFits g g.start u → TreeFits h h.start u) → (rule most number : ℕ) (trees : List Common) → IsLeast g h rule most → most ≤ 4096 → HoldsAt g h p numbers cs.steps.items rule most 0 trees number → IsLeastTree g h rule (tree_at trees number)
  holds_last nh same rule most number trees least short holds =
      let t = tree_at trees number in
      let fits : TreeFits g g.start t = subst (λ n. TreeFits g n t) complete.contexts.are.first holds.fits in
      let size_is : size g h t ≡ weight g h t = sizes_add_lem g h g.start h.start t sound.built.slots nh fits (same t fits) in
      record {
        shows = record { fits = fits; uses = holds.uses };
        least = λ u shows. omega (arith, size_is, holds.light, short, least.least u shows);
        short = omega (arith, size_is, holds.light, short);
      }

  -- the least size is what stands around and the production cost
  pub least_is : HasNumberedSlots h → ((u : Common) → TreeFits g g.start u → TreeFits h h.start u) → (rule n : ℕ) → rule < length g.rules → IsLeast g h rule n → n ≤ 4096 → at cs.arounds.items (rule_of g rule).non + rule_cost g h (costs_of p) rule ≡ n
  least_is nh same rule n there least short = elim (cases_lt 1000000000 (at cs.arounds.items (rule_of g rule).non)) [
    | inl far ↦ absurd (unreached g h p numbers known cs sound complete rule least.attained.0 far least.attained.1)
    | inr near ↦
        let other : IsLeast g h rule (capped (at cs.arounds.items (rule_of g rule).non + rule_cost g h (costs_of p) rule)) = reached_least g h p numbers known cs sound complete nh same rule there near in
        omega (arith, short, least.attained.2, other.attained.2, least.least other.attained.0 other.attained.1, other.least least.attained.0 least.attained.1)
  ]

-- the numbers stay of trees that are there
pub set_there : (kids : List ℕ) (s number bound : ℕ) → number < bound → All (λ k. k < bound) kids → All (λ k. k < bound) (set kids s number)
set_there kids s number bound there all = All-from_get_or (λ k. k < bound) (set kids s number) 0 (λ i below. by i (omega (arith, below, length-set kids s number)) (eqb_tells i s))
  where
    by : (i : ℕ) → i < length kids → (((i == s) ≡ true) × (i ≡ s)) ⊎ (((i == s) ≡ false) × (i ≢ s)) → at (set kids s number) i < bound
    by i below (inl same) = omega (arith, there, ap (λ j. at (set kids s number) j) same.1, get_or-set_same kids s number 0 (omega (arith, below, same.1)))
    by i below (inr apart) = omega (arith, get_or-set_other kids s i number 0 apart.1, All-get_or (λ k. k < bound) kids i 0 below all)

-- one more element of a list
pub take_next : {A : Type 0} (xs : List A) (n : ℕ) (x : A) → slice_get xs n ≡ Some x → take (n + 1) xs ≡ take n xs ++ x ∷ []
take_next [] n x e = absurd (none-some x e)
take_next (y ∷ xs) zero x e = ap (λ z. z ∷ []) (same_Some y x e)
take_next (y ∷ xs) (suc n) x e =
    let next : suc n + 1 ≡ suc (n + 1) = omega arith in
    ap (λ k. take k (y ∷ xs)) next ∙ ap (λ l. y ∷ l) (take_next xs n x e)
