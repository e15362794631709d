-- Costs of terminals, of nonterminals and of what stands around them, from which no rule leads to
-- lower ones.
use Rattle.std.specs.Prelude.{◌≡◌, ℕ, ◌+◌, ◌<◌, ◌≤◌, List, [], ◌∷◌, length, None, Some}
use Rattle.std.specs.declared.option.Option.{Option}
use Rattle.xs_gram.specs.declared.parts.GItem.{GItem}
use Rattle.xs_gram.specs.declared.parts.GItem.TheVariants.{Fixed, Term, Non, Skip}
use Rattle.xs_gram.specs.Grammar.{Grammar, rule_of, items, ItemAt, IsTermWord}
use Rattle.xs_gram.specs.Common.{Kind, of_term, of_non}
use Rattle.xs_cover.specs.Sizes.{own_length}

-- a cost for each terminal, for each nonterminal, and for what stands around it in a tree
pub record Costs : Type 0 where
  pub terms : ℕ → ℕ
  pub nons : ℕ → ℕ
  pub around : ℕ → ℕ

-- what a slot of the kind costs
abbrev pub kind_cost : Costs → Option Kind → ℕ
kind_cost c None = 0
kind_cost c (Some (of_term t)) = c.terms t
kind_cost c (Some (of_non n)) = c.nons n

-- what the slots of items cost
abbrev pub slots_cost : Costs → List GItem → ℕ
slots_cost c [] = 0
slots_cost c (Fixed f ∷ is) = slots_cost c is
slots_cost c (Term t s ∷ is) = c.terms t + slots_cost c is
slots_cost c (Non n s ∷ is) = c.nons n + slots_cost c is
slots_cost c (Skip k ∷ is) = slots_cost c is

-- what a production has of its own and what its slots cost
abbrev pub rule_cost : Grammar → Grammar → Costs → ℕ → ℕ
rule_cost g h c p = own_length g h p + slots_cost c (items g p)

-- No word of a terminal is shorter, once for each side, than its cost; no rule costs less than its
-- nonterminal; nothing stands around the start; and what stands around a nonterminal in a rule does
-- not cost less than what stands around it at least.
pub record AreClosed (g h : Grammar) (c : Costs) : Type 0 where
  pub words : (t : ℕ) (w : List ℕ) → IsTermWord g t w → c.terms t ≤ length w + length w
  pub rules : (p : ℕ) → p < length g.rules → c.nons (rule_of g p).non ≤ rule_cost g h c p
  pub start : c.around g.start ≡ 0
  pub holes : (p n m s : ℕ) → p < length g.rules → ItemAt g p n (Non m s) → c.around m + c.nons m ≤ c.around (rule_of g p).non + rule_cost g h c p
