-- Laws over sizes.
use Rattle.std.specs.Prelude.{◌≡◌, ℕ, ◌+◌, ◌<◌, ◌≤◌, length, Bool, true}
use Rattle.xs_gram.specs.Grammar.{Grammar, rule_of, ItemAt}
use Rattle.xs_gram.specs.declared.parts.GItem.TheVariants.{Non}
use Rattle.xs_gram.specs.Common.{Common, TreeFits}
use Rattle.xs_gram.specs.Laws.{HasNumberedSlots}
use Rattle.xs_cover.specs.Sizes.{size, capped, weight, Shows, IsLeast}
use Rattle.xs_cover.specs.Costs.{Costs, AreClosed, rule_cost}

-- the size of a tree that fits both sides is its weight
abbrev pub SizesAdd : Type 0
SizesAdd = (g h : Grammar) (n m : ℕ) (t : Common) → HasNumberedSlots g → HasNumberedSlots h → TreeFits g n t → TreeFits h m t → size g h t ≡ weight g h t

-- closed costs bound the weight of each tree that shows a production from below
abbrev pub ClosedCostsAreLow : Type 0
ClosedCostsAreLow = (g h : Grammar) (c : Costs) (p : ℕ) (t : Common) → HasNumberedSlots g → AreClosed g h c → Shows g p t → c.around (rule_of g p).non + rule_cost g h c p ≤ weight g h t

-- where a tree that fits the start on one side fits it on the other, closed costs that the weight of
-- some tree attains are the least size
abbrev pub CostsAreLeast : Type 0
CostsAreLeast = (g h : Grammar) (c : Costs) (p : ℕ) (t : Common) → HasNumberedSlots g → HasNumberedSlots h → ((u : Common) → TreeFits g g.start u → TreeFits h h.start u)
    → AreClosed g h c → Shows g p t → capped (weight g h t) ≡ capped (c.around (rule_of g p).non + rule_cost g h c p) → IsLeast g h p (capped (c.around (rule_of g p).non + rule_cost g h c p))

-- a table that has the start, and each nonterminal in a rule of one that it has, has the nonterminal
-- of each production that a tree shows
abbrev pub UnreachedIsNotShown : Type 0
UnreachedIsNotShown = (g : Grammar) (has : ℕ → Bool) (p : ℕ) (t : Common) → has g.start ≡ true
    → ((q n m s : ℕ) → q < length g.rules → has (rule_of g q).non ≡ true → ItemAt g q n (Non m s) → has m ≡ true) → Shows g p t → has (rule_of g p).non ≡ true
