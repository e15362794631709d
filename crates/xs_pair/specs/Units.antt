-- The names of a sheet's units, and what numbers them.
use Rattle.std.specs.Prelude.{ℕ, Bool, true, false, List, [], ◌∷◌, ◌++◌, map, filter, None, Some}
use Rattle.std.specs.declared.option.Option.{Option}
use Rattle.xs_sheet.specs.declared.unit.Unit.{Unit}
use Rattle.xs_sheet.specs.declared.unit.Unit.TheVariants.{Terminal, Ignorable, Production, Fence}
use Rattle.xs_class.specs.Ordered.{place_of}
use Rattle.xs_pair.specs.declared.names.Sort.{Sort}
use Rattle.xs_pair.specs.declared.names.Sort.TheVariants as S

-- the name of a unit; of a fence, which has none, its first text
abbrev pub unit_name : Unit → List ℕ
unit_name (Terminal name pattern regex line) = name
unit_name (Ignorable name pattern regex normal line) = name
unit_name (Production name left right line) = name
unit_name (Fence left right line) = left

abbrev pub unit_line : Unit → ℕ
unit_line (Terminal name pattern regex line) = line
unit_line (Ignorable name pattern regex normal line) = line
unit_line (Production name left right line) = line
unit_line (Fence left right line) = line

-- the unit is of this sort: any unit that has a name, one that is no production, a terminal, an ignorable, a
-- production; a fence is of none
abbrev pub is_of : Sort → Unit → Bool
is_of S.Any (Fence left right line) = false
is_of S.Any u = true
is_of S.Lexical (Terminal name pattern regex line) = true
is_of S.Lexical (Ignorable name pattern regex normal line) = true
is_of S.Terminal (Terminal name pattern regex line) = true
is_of S.Ignorable (Ignorable name pattern regex normal line) = true
is_of S.Production (Production name left right line) = true
is_of sort u = false

-- the names of the units of a sort, in the order of the units
abbrev pub names_of : Sort → List Unit → List (List ℕ)
names_of sort us = map unit_name (filter (is_of sort) us)

-- names with one more at the end, unless it is among them
abbrev pub with_name : List (List ℕ) → List ℕ → List (List ℕ)
with_name names name = elim (place_of names name) [ None ↦ names ++ name ∷ [] | Some k ↦ names ]

abbrev pub with_names : List (List ℕ) → List (List ℕ) → List (List ℕ)
with_names names [] = names
with_names names (n ∷ ns) = with_names (with_name names n) ns

-- each name of a list once, in the order of their first places
abbrev pub firsts : List (List ℕ) → List (List ℕ)
firsts list = with_names [] list

-- the nonterminals, in the order of their first productions
abbrev pub nons_of : List Unit → List (List ℕ)
nons_of us = firsts (names_of S.Production us)

abbrev pub terms_of : List Unit → List (List ℕ)
terms_of us = names_of S.Terminal us

abbrev pub skips_of : List Unit → List (List ℕ)
skips_of us = names_of S.Ignorable us

abbrev pub or_zero : Option ℕ → ℕ
or_zero None = 0
or_zero (Some k) = k

-- the number of a name that is among the names
abbrev pub number_of : List (List ℕ) → List ℕ → ℕ
number_of names name = or_zero (place_of names name)
