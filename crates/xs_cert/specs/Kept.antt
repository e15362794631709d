-- Nets of rules that are kept.
use Rattle.std.specs.Prelude.{◌≡◌, ℕ, List, slice_get, Some}
use Rattle.std.specs.declared.option.Option.{Option}
use Rattle.xs_auto.specs.Nets.{Graph}
use Rattle.xs_gram.specs.Grammar.{Grammar}
use Rattle.xs_searches.specs.Spaces.{IsRuleNet}

-- what is kept in the place of each rule, if something is, is a net of all its spread items
abbrev pub AreNetsOf : Grammar → List (Option Graph) → Type 0
AreNetsOf g nets = (p : ℕ) (n : Graph) → slice_get nets p ≡ Some (Some n) → IsRuleNet g p n

-- nothing is kept
abbrev pub HasNone : List (Option Graph) → Type 0
HasNone nets = (p : ℕ) (n : Graph) → slice_get nets p ≡ Some (Some n) → ⊥
