-- The productions of a sheet, both sides laid out flat.
use Rattle.std.specs.Prelude.{ℕ, List, [], ◌∷◌, map}
use Rattle.std.specs.List.{flat_map}
use Rattle.xs_sheet.specs.declared.item.Item.{Item}
use Rattle.xs_sheet.specs.declared.x_item.XItem.{XItem}
use Rattle.xs_sheet.specs.declared.unit.Unit.{Unit}
use Rattle.xs_sheet.specs.declared.unit.Unit.TheVariants.{Terminal, Ignorable, Production, Fence}
use Rattle.xs_pair.specs.declared.mark.Mark.TheVariants.{Content}
use Rattle.xs_pair.specs.declared.production.Rule.{Rule}
use Rattle.xs_pair.specs.Marks.{all_marks, is_element, mark_names}

-- a production with both sides laid out flat
abbrev pub rule_of : List ℕ → List Item → List XItem → ℕ → Rule
rule_of name left right line = record { name = name; left = map Content left; right = all_marks right; is_element = is_element right; line = line }

-- the production that a unit is
abbrev pub rule_in : Unit → List Rule
rule_in (Terminal name pattern regex line) = []
rule_in (Ignorable name pattern regex normal line) = []
rule_in (Fence left right line) = []
rule_in (Production name left right line) = rule_of name left right line ∷ []

-- the productions of the units, in their order
abbrev pub rules_of : List Unit → List Rule
rules_of us = flat_map rule_in us

-- the names of elements and attributes in all productions, as often as they stand there
abbrev pub names_in : List Rule → List (List ℕ)
names_in rs = flat_map (λ (r : Rule). mark_names r.right) rs
