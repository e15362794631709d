-- What stands around nonterminals in trees of the start, in steps from the start on.
use Rattle.std.specs.Prelude.{◌≡◌, ℕ, ◌+◌, ◌-◌, ◌<◌, ◌≤◌, List, ◌++◌, length, Some, slice_index_or}
use Rattle.xs_gram.specs.declared.parts.GItem.{GItem}
use Rattle.xs_gram.specs.declared.parts.GItem.TheVariants.{Fixed, Term, Non, Skip}
use Rattle.xs_gram.specs.Grammar.{Grammar, rule_of, items, ItemAt}
use Rattle.xs_gram.specs.Common.{of_non, kinds, lookup}
use Rattle.xs_cover.specs.declared.contexts.Step.{Step}
use Rattle.xs_cover.specs.declared.contexts.Passing.{Passing}
use Rattle.xs_cover.specs.declared.contexts.Contexts.{Contexts}
use Rattle.xs_cover.specs.declared.prices.Prices.{Prices}
use Rattle.xs_cover.specs.Sizes.{capped}
use Rattle.xs_cover.specs.Costs.{rule_cost}
use Rattle.xs_cover.specs.Prices.{costs_of}
use Rattle.xs_cover.specs.Tables.{at}

-- what stands for a step that is not there
abbrev pub no_step : Step
no_step = record { non = 0; rule = 0; slot = 0; parent = 0; cost = 0 }

abbrev pub step_at : List Step → ℕ → Step
step_at steps i = slice_index_or steps i no_step

-- what a rule costs without one of its nonterminals
abbrev pub rest_cost : Grammar → Grammar → Prices → ℕ → ℕ → ℕ
rest_cost g h p rule non = capped (rule_cost g h (costs_of p) rule) - at p.nons.items non

-- a step from the nonterminal of an earlier one to a nonterminal in a rule of it
pub record IsStep (g h : Grammar) (p : Prices) (steps : List Step) (i : ℕ) (s : Step) : Type 0 where
  pub below : s.parent < i
  pub there : s.rule < length g.rules
  pub of : (rule_of g s.rule).non ≡ (step_at steps s.parent).non
  pub found : lookup s.slot (kinds (items g s.rule)) ≡ Some (of_non s.non)
  pub costs : s.cost ≡ capped ((step_at steps s.parent).cost + rest_cost g h p s.rule s.non)

-- the first step is that to the start, and the others are steps from earlier ones
pub record AreSteps (g h : Grammar) (p : Prices) (steps : List Step) : Type 0 where
  pub some : 0 < length steps
  pub first : (step_at steps 0).non ≡ g.start
  pub nothing : (step_at steps 0).cost ≡ 0
  pub others : (i : ℕ) → 0 < i → i < length steps → IsStep g h p steps i (step_at steps i)

-- the place is that of a step to the nonterminal with this cost
pub record IsStepTo (steps : List Step) (non cost place : ℕ) : Type 0 where
  pub there : place < length steps
  pub to : (step_at steps place).non ≡ non
  pub costs : (step_at steps place).cost ≡ cost

-- What stands around each nonterminal that the start reaches costs at most the bound, and a step
-- leads there; what costs more is not reached.
pub record HaveSteps (g h : Grammar) (p : Prices) (arounds places : List ℕ) (steps : List Step) : Type 0 where
  pub arounds_counted : length arounds ≡ g.nons
  pub places_counted : length places ≡ g.nons
  pub start : at arounds g.start ≡ 0
  pub low : (n : ℕ) → at arounds n ≤ 1000000001
  pub are : AreSteps g h p steps
  pub reached : (n : ℕ) → n < g.nons → at arounds n ≤ 1000000000 → IsStepTo steps n (at arounds n) (at places n)

abbrev pub AreContexts : Grammar → Grammar → Prices → Contexts → Type 0
AreContexts g h p c = HaveSteps g h p c.arounds.items c.places.items c.steps.items

-- where the rule's nonterminal is reached, each item's is, and costs no more than by the rule
abbrev pub IsPassed : Grammar → Grammar → Prices → List ℕ → ℕ → Type 0
IsPassed g h p arounds rule = at arounds (rule_of g rule).non ≤ 1000000000 → (n m s : ℕ) → ItemAt g rule n (Non m s) → at arounds m ≤ capped (at arounds (rule_of g rule).non + rest_cost g h p rule m)

-- the list of steps goes on
abbrev pub HasGrown : List Step → List Step → Type 0
HasGrown old new = (more : List Step) × (new ≡ old ++ more)

-- a rule of the nonterminal to which a step leads, and what it costs
pub record IsPassing (g h : Grammar) (p : Prices) (steps : List Step) (f : Passing) : Type 0 where
  pub there : f.parent < length steps
  pub rule_there : f.rule < length g.rules
  pub of : (rule_of g f.rule).non ≡ (step_at steps f.parent).non
  pub around_is : f.around ≡ (step_at steps f.parent).cost
  pub cost_is : f.cost ≡ capped (rule_cost g h (costs_of p) f.rule)

-- what stands around a nonterminal in the item costs no more than by the rule
abbrev pub IsPassedItem : Prices → List ℕ → Passing → GItem → Type 0
IsPassedItem p arounds f (Fixed w) = Unit {0}
IsPassedItem p arounds f (Term t s) = Unit {0}
IsPassedItem p arounds f (Non m s) = at arounds m ≤ capped (f.around + (f.cost - at p.nons.items m))
IsPassedItem p arounds f (Skip k) = Unit {0}

-- the item is one of the rule's
abbrev pub IsItemOf : Grammar → ℕ → GItem → Type 0
IsItemOf g rule item = (n : ℕ) × ItemAt g rule n item
