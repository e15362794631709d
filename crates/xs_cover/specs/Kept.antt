-- When tables of costs, trees and steps are complete, and what they then say.
use Rattle.std.specs.Prelude.{◌≡◌, ℕ, ◌+◌, ◌<◌, ◌≤◌, List, length, None, slice_index_or}
use Rattle.std.specs.declared.option.Option.{Option}
use Rattle.xs_gram.specs.Grammar.{Grammar, rule_of}
use Rattle.xs_gram.specs.Common.{Common, TreeFits}
use Rattle.xs_pair.specs.Grammars.{Pair}
use Rattle.xs_tree.specs.Flat.{tree_at, trees_of}
use Rattle.xs_cover.specs.declared.prices.Prices.{Prices}
use Rattle.xs_cover.specs.declared.contexts.Step.{Step}
use Rattle.xs_cover.specs.declared.contexts.Contexts.{Contexts}
use Rattle.xs_cover.specs.declared.covers.Tables.{Tables}
use Rattle.xs_cover.specs.declared.trees.Trees.{Trees}
use Rattle.xs_cover.specs.declared.covers.Covers.{Covers}
use Rattle.xs_cover.specs.Sizes.{capped, weight, Uses, IsLeast, IsLeastSize}
use Rattle.xs_cover.specs.Costs.{rule_cost}
use Rattle.xs_cover.specs.Leaves.{AreLeaves}
use Rattle.xs_cover.specs.Picks.{HaveRows}
use Rattle.xs_cover.specs.Reading.{IsReadTo}
use Rattle.xs_cover.specs.Prices.{costs_of, AreLow, HaveTrees, IsClosed}
use Rattle.xs_cover.specs.Steps.{step_at, AreContexts, IsPassed}
use Rattle.xs_cover.specs.Tables.{at}

-- no rule gives a lower cost, and no step leads to less
pub record AreComplete (g h : Grammar) (p : Prices) (numbers : List ℕ) (trees : List Common) (c : Contexts) : Type 0 where
  pub have : HaveTrees g h trees p.terms.items p.nons.items numbers
  pub low : AreLow g p.terms.items
  pub closed : (q : ℕ) → q < length g.rules → IsClosed g h p q
  pub contexts : AreContexts g h p c
  pub passed : (q : ℕ) → q < length g.rules → IsPassed g h p c.arounds.items q

-- trees that cost what the tables of two grammars say, by which these are complete
abbrev pub HaveRead : Pair → Tables → List ℕ → List Common → Type 0
HaveRead two t numbers trees = AreComplete two.text two.xml t.prices numbers trees t.contexts

-- the trees of the rows before a place are read
abbrev pub IsReadIn : Pair → Tables → Trees → ℕ → Type 0
IsReadIn two t trees place = IsReadTo two.text two.xml t.prices.terms.items t.prices.nons.items t.forest (trees_of trees.builder) trees.numbers.items place

-- the tables of two grammars are complete, and the forest has a row for each known cost
pub record AreTables (two : Pair) (t : Tables) : Type 0 where
  pub leaves : AreLeaves two.text t.words.items t.prices.terms.items
  pub rows : HaveRows two.text two.xml t.prices.terms.items t.prices.nons.items t.forest
  pub numbers : List ℕ
  pub trees : List Common
  pub read : HaveRead two t numbers trees

-- the least sizes, by production
abbrev pub sizes_of : Covers → List (Option ℕ)
sizes_of c = c.sizes.items

-- what covers of two grammars are: a least size for each production, and what its trees are made of
pub record AreCoversOf (two : Pair) (c : Covers) : Type 0 where
  pub counted : length (sizes_of c) ≡ length two.text.rules
  pub sizes : (p : ℕ) → p < length two.text.rules → IsLeastSize two.text two.xml p (slice_index_or (sizes_of c) p None)
  pub complete : AreTables two c.tables

-- Tree `number` fits the nonterminal to which step `place` leads, it shows the production, and
-- weighs, with what stands around it, at most so much.
pub record HoldsAt (g h : Grammar) (p : Prices) (numbers : List ℕ) (steps : List Step) (rule most place : ℕ) (trees : List Common) (number : ℕ) : Type 0 where
  pub have : HaveTrees g h trees p.terms.items p.nons.items numbers
  pub on : place < length steps
  pub there : number < length trees
  pub fits : TreeFits g (step_at steps place).non (tree_at trees number)
  pub uses : Uses (tree_at trees number) rule
  pub light : (step_at steps place).cost + capped (weight g h (tree_at trees number)) ≤ most

-- what stands around a production, and what it costs
abbrev pub shown_cost : Pair → Tables → ℕ → ℕ
shown_cost two t rule = at t.contexts.arounds.items (rule_of two.text rule).non + rule_cost two.text two.xml (costs_of t.prices) rule

-- tree `number` of the list can stand where step `place` of the tables leads
abbrev pub IsShownAt : Pair → Tables → List ℕ → ℕ → ℕ → List Common → ℕ → Type 0
IsShownAt two t numbers rule place trees number = HoldsAt two.text two.xml t.prices numbers t.contexts.steps.items rule (shown_cost two t rule) place trees number

-- some tree shows the production, and a least one is not too long
abbrev pub IsShort : Grammar → Grammar → ℕ → Type 0
IsShort g h rule = (n : ℕ) × IsLeast g h rule n × (n ≤ 4096)
