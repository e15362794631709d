-- A smallest tree of a production: from a node of it up to the start, by the steps of complete tables.
use Rattle.std.proofs.Common.{◌≡◌, ℕ, ◌<◌, ◌≤◌, List, [], ◌∷◌, ◌++◌, length, All, set, get_or, sym, subst, ◌∙◌, ap, arith}
use Rattle.std.proofs.lemmas.List.{get_or_read}
use Rattle.xs_gram.specs.Common.{Common, made, of_non}
use Rattle.xs_gram.specs.Grammar.{rule_of, items}
use Rattle.xs_gram.proofs.Printed.{kinds_long}
use Rattle.xs_pair.specs.Grammars.{Pair}
use Rattle.xs_pair.specs.Sound.{IsSoundPair}
use Rattle.xs_tree.specs.Flat.{Flat, TreePart, common_of, trees_of, kids_at}
use Rattle.xs_tree.proofs.Trees.{length-trees}
use Rattle.xs_cover.specs.declared.contexts.Step.{Step}
use Rattle.xs_cover.specs.declared.covers.Tables.{Tables}
use Rattle.xs_cover.specs.Kept.{HaveRead, IsShort, IsShownAt, shown_cost}
use Rattle.xs_cover.specs.Prices.{AreKids}
use Rattle.xs_cover.specs.Sizes.{IsLeast, IsLeastTree}
use Rattle.xs_cover.specs.Steps.{no_step, step_at, IsStep}
use Rattle.xs_cover.specs.Tables.{at}
use Rattle.xs_cover.proofs.Around.{same_starts, slot_below}
use Rattle.xs_cover.proofs.Chains.{holds_first, holds_next, holds_last, least_is, set_there, step_rule_cheap}
use Rattle.xs_cover.proofs.Showing.{kids_there}

module _ (two : Pair) (t : Tables) (numbers : List ℕ) (known : List Common) (sound : IsSoundPair two) (are : HaveRead two t numbers known) (rule : ℕ) (there : rule < length two.text.rules) (short : IsShort two.text two.xml rule) where
  cost_is : shown_cost two t rule ≡ short.0
  cost_is = least_is two.text two.xml t.prices numbers known t.contexts sound.text are sound.xml.built.slots (same_starts two sound) rule short.0 there short.1 short.2

  cost_low : shown_cost two t rule ≤ 4096
  cost_low = omega (arith, cost_is, short.2)

  -- the first node, by the parts that it is put after
  module _ (parts : List TreePart) (same : trees_of parts ≡ known) (kids : List ℕ) (placed : AreKids numbers (items two.text rule) kids) where
    pub first_kids : All (λ k. k < length parts) kids
    first_kids =
        let there = kids_there two.text two.xml t.prices.terms.items t.prices.nons.items numbers known sound.text are.have rule (omega (arith, cost_low)) kids placed in
        subst (λ n. All (λ k. k < n) kids) (ap length (sym same) ∙ length-trees parts) there

    pub shown_first : (new : List TreePart) (place number : ℕ) → place ≡ at t.contexts.places.items (rule_of two.text rule).non → number ≡ length parts → trees_of new ≡ trees_of parts ++ made rule (kids_at (trees_of parts) kids) ∷ [] → IsShownAt two t numbers rule place (trees_of new) number
    shown_first new place number at_place last made_is =
        let number_is : number ≡ length known = last ∙ sym (length-trees parts) ∙ ap length same in
        rw (at_place, number_is, made_is, same) (holds_first two.text two.xml t.prices numbers known t.contexts sound.text are rule (shown_cost two t rule) known kids there are.have placed (omega arith) cost_low)

  -- a node around another, by the step that leads to that one
  module _ (place number : ℕ) (parts : List TreePart) (some : 0 < place) (holds : IsShownAt two t numbers rule place (trees_of parts) number) (s : Step) (read : s ≡ get_or t.contexts.steps.items place s) (kids : List ℕ) (placed : AreKids numbers (items two.text s.rule) kids) where
    is : s ≡ step_at t.contexts.steps.items place
    is = get_or_read t.contexts.steps.items place s holds.on read no_step

    placed_at : AreKids numbers (items two.text (step_at t.contexts.steps.items place).rule) kids
    placed_at = subst (λ (z : Step). AreKids numbers (items two.text z.rule) kids) is placed

    pub slot_there : s.slot < length kids
    slot_there =
        let step : IsStep two.text two.xml t.prices t.contexts.steps.items place s = subst (λ (z : Step). IsStep two.text two.xml t.prices t.contexts.steps.items place z) (sym is) (are.contexts.are.others place some holds.on) in
        let below = slot_below (items two.text s.rule) s.slot (of_non s.non) (sound.text.built.slots s.rule) step.found in
        omega (arith, below, kinds_long (items two.text s.rule), placed.counted)

    pub next_kids : All (λ k. k < length parts) (set kids s.slot number)
    next_kids =
        let cheap = step_rule_cheap two.text two.xml t.prices numbers known t.contexts sound.text are rule (shown_cost two t rule) place number (trees_of parts) cost_low some holds in
        let there = kids_there two.text two.xml t.prices.terms.items t.prices.nons.items numbers (trees_of parts) sound.text holds.have (step_at t.contexts.steps.items place).rule cheap kids placed_at in
        subst (λ n. All (λ k. k < n) (set kids s.slot number)) (length-trees parts) (set_there kids s.slot number (length (trees_of parts)) holds.there there)

    pub shown_next : (new : List TreePart) (next : ℕ) → next ≡ length parts → trees_of new ≡ trees_of parts ++ made s.rule (kids_at (trees_of parts) (set kids s.slot number)) ∷ [] → IsShownAt two t numbers rule s.parent (trees_of new) next
    shown_next new next last made_is =
        let next_is : next ≡ length (trees_of parts) = last ∙ sym (length-trees parts) in
        rw (next_is, made_is, is) (holds_next two.text two.xml t.prices numbers known t.contexts sound.text are rule (shown_cost two t rule) place number (trees_of parts) kids cost_low some holds placed_at)

  pub shown_last : (place number : ℕ) (parts : List TreePart) (tree : Flat) → place ≤ 0 → IsShownAt two t numbers rule place (trees_of parts) number → tree.parts ≡ parts → tree.root ≡ number → IsLeastTree two.text two.xml rule (common_of tree)
  shown_last place number parts tree none holds parts_are root_is =
      let zero : place ≡ 0 = omega arith in
      let least : IsLeast two.text two.xml rule (shown_cost two t rule) = subst (λ n. IsLeast two.text two.xml rule n) (sym cost_is) short.1 in
      let last : IsShownAt two t numbers rule 0 (trees_of parts) number = subst (λ k. IsShownAt two t numbers rule k (trees_of parts) number) zero holds in
      rw (parts_are, root_is) (holds_last two.text two.xml t.prices numbers known t.contexts sound.text are sound.xml.built.slots (same_starts two sound) rule (shown_cost two t rule) number (trees_of parts) least cost_low last)
