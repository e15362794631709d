-- What is asked of the nonterminals of a grammar.
use Rattle.std.specs.Prelude.{◌≡◌, ◌↔◌, ℕ, ◌<◌, Bool, false, List, length, slice_index_or, IsTrue}
use Rattle.xs_gram.specs.Grammar.{Grammar}
use Rattle.xs_gram.specs.Sound.{IsNullable, IsProductive, LeadsTo, DerivesItself}
use Rattle.xs_order.specs.declared.fault.OrderFault.{OrderFault}
use Rattle.xs_order.specs.declared.fault.OrderFault.TheVariants.{Loop, Memory}

-- a flag for each nonterminal, set exactly where it derives the empty word
pub record AreNullable (g : Grammar) (flags : List Bool) : Type 0 where
  pub counted : length flags ≡ g.nons
  pub exact : (n : ℕ) → n < g.nons → IsTrue (slice_index_or flags n false) ↔ IsNullable g n

-- a flag for each nonterminal, set exactly where it derives a word
pub record AreProductive (g : Grammar) (flags : List Bool) : Type 0 where
  pub counted : length flags ≡ g.nons
  pub exact : (n : ℕ) → n < g.nons → IsTrue (slice_index_or flags n false) ↔ IsProductive g n

-- a rank for each nonterminal, greater than those to which it leads
pub record AreRanks (g : Grammar) (ranks : List ℕ) : Type 0 where
  pub counted : length ranks ≡ g.nons
  pub falls : (n m : ℕ) → LeadsTo g n m → slice_index_or ranks m 0 < slice_index_or ranks n 0

-- the nonterminal derives itself alone, and no smaller one does
pub record IsFirstLoop (g : Grammar) (n : ℕ) : Type 0 where
  pub loops : DerivesItself g n
  pub first : (m : ℕ) → m < n → DerivesItself g m → ⊥

-- where the fault speaks of a loop, it is the first one
abbrev pub IsLoop : Grammar → OrderFault → Type 0
IsLoop g (Loop non) = IsFirstLoop g non
IsLoop g Memory = Unit {0}
