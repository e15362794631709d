-- The set of characters that a name stands for.
use Rattle.std.specs.Prelude.{ℕ, ◌≤◌, ◌↔◌, List, Option, IsTrue}
use Rattle.ucd_sets.specs.Loose.{normalize}
use Rattle.ucd_sets.specs.Lookup.{by_name}
use Rattle.ucd_sets.specs.Sets.{in_set}
use Rattle.ucd_sets.specs.declared.set.Set.{Set}
use Rattle.xs_class.specs.Classes.{Has}

-- the set that the name stands for, where names match loosely (Unicode Standard Annex 44, UAX44-LM3)
abbrev pub set_named : List ℕ → Option Set
set_named name = by_name (normalize name)

-- the class has the members of the set
abbrev pub HasMembersOf : List (ℕ × ℕ) → Set → Type 0
HasMembersOf ranges set = (s : ℕ) → Has ranges s ↔ ((s ≤ 0x10FFFF) × IsTrue (in_set set s))
