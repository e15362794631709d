-- Costs of rules whose items are all known.
use Rattle.std.proofs.Common.{◌≡◌, inl, inr, ℕ, suc, ◌+◌, ◌<◌, ◌≤◌, List, [], ◌∷◌, refl, ap, arith, Some, slice_get, set, length}
use Rattle.xs_gram.specs.declared.parts.GItem.{GItem}
use Rattle.xs_gram.specs.declared.parts.GItem.TheVariants.{Fixed, Term, Non, Skip}
use Rattle.xs_gram.specs.Grammar.{Grammar, items, ItemAt}
use Rattle.xs_cover.specs.Sizes.{own_length}
use Rattle.xs_cover.specs.Costs.{slots_cost, rule_cost}
use Rattle.xs_cover.specs.Prices.{costs_in}
use Rattle.xs_cover.specs.Tables.{at}
use Rattle.xs_cover.proofs.Around.{item_cheap}
use Rattle.xs_cover.proofs.Ways.{at_set}

-- what is known stays
abbrev pub KeepsKnown : List ℕ → List ℕ → Type 0
KeepsKnown old new = (n : ℕ) → at old n < 1000000000 → at new n ≡ at old n

pub slots_kept : (terms old new : List ℕ) (is : List GItem) → ((n m s : ℕ) → slice_get is n ≡ Some (Non m s) → at new m ≡ at old m) → slots_cost (costs_in terms new []) is ≡ slots_cost (costs_in terms old []) is
slots_kept terms old new [] same = refl
slots_kept terms old new (Fixed f ∷ is) same = slots_kept terms old new is (λ n m s e. same (suc n) m s e)
slots_kept terms old new (Term t k ∷ is) same = ap (λ n. at terms t + n) (slots_kept terms old new is (λ n m s e. same (suc n) m s e))
slots_kept terms old new (Non m k ∷ is) same = omega (arith, same 0 m k refl, slots_kept terms old new is (λ n j s e. same (suc n) j s e))
slots_kept terms old new (Skip k ∷ is) same = slots_kept terms old new is (λ n m s e. same (suc n) m s e)

-- what a rule costs whose items are known
pub rule_kept : (g h : Grammar) (terms old new : List ℕ) (rule : ℕ) → KeepsKnown old new → ((n m s : ℕ) → ItemAt g rule n (Non m s) → at old m < 1000000000) → rule_cost g h (costs_in terms new []) rule ≡ rule_cost g h (costs_in terms old []) rule
rule_kept g h terms old new rule kept known = ap (λ n. own_length g h rule + n) (slots_kept terms old new (items g rule) (λ n m s e. kept m (known n m s e)))

-- the items of a rule that costs less than the bound are known
pub items_known : (g h : Grammar) (terms nons : List ℕ) (rule n m s : ℕ) → rule_cost g h (costs_in terms nons []) rule < 1000000000 → ItemAt g rule n (Non m s) → at nons m < 1000000000
items_known g h terms nons rule n m s cheap item = omega (arith, cheap, item_cheap (costs_in terms nons []) (items g rule) n m s item)

-- a nonterminal costs no more than a rule in which it is
pub item_low : (g h : Grammar) (terms nons : List ℕ) (rule n m s : ℕ) → ItemAt g rule n (Non m s) → at nons m ≤ rule_cost g h (costs_in terms nons []) rule
item_low g h terms nons rule n m s item = omega (arith, item_cheap (costs_in terms nons []) (items g rule) n m s item)

-- one more nonterminal is known
pub known_more : (nons : List ℕ) (n cost : ℕ) → n < length nons → 1000000000 ≤ at nons n → KeepsKnown nons (set nons n cost)
known_more nons n cost there unknown k known = elim (at_set nons n k cost there) [
  | inl here ↦ absurd (omega (arith, unknown, known, ap (at nons) here.0))
  | inr other ↦ other.1
]
