-- How much a sheet weighs, which bounds how many names, slots, items and symbols it has.
use Rattle.std.specs.Prelude.{◌≡◌, ℕ, ◌+◌, ◌<◌, ◌≤◌, List, [], ◌∷◌, length, Some, slice_get}
use Rattle.xs_sheet.specs.declared.item.Item.{Item}
use Rattle.xs_sheet.specs.declared.sheet.Sheet.{Sheet}
use Rattle.xs_sheet.specs.Grammar.{IsSheetOf}
use Rattle.xs_sheet.specs.declared.item.Item.TheVariants as I
use Rattle.xs_sheet.specs.declared.unit.Unit.{Unit}
use Rattle.xs_sheet.specs.declared.unit.Unit.TheVariants.{Terminal, Ignorable, Production, Fence}
use Rattle.xs_pair.specs.declared.mark.Mark.{Mark}
use Rattle.xs_pair.specs.declared.mark.Mark.TheVariants.{Opening, Attribute, AttributeEnd, Closing, Value, Content}
use Rattle.xs_pair.specs.declared.production.Rule.{Rule}
use Rattle.xs_pair.specs.Listing.{rule_of}

-- one more than the characters of a string
abbrev pub item_weight : Item → ℕ
item_weight (I.Fixed text) = length text + 1
item_weight (I.Named name slot) = 1
item_weight (I.Skip name) = 1

abbrev pub mark_weight : Mark → ℕ
mark_weight (Opening tag names) = length names + 1
mark_weight (Attribute name) = 1
mark_weight AttributeEnd = 1
mark_weight (Closing tag) = 1
mark_weight (Value i) = item_weight i
mark_weight (Content i) = item_weight i

abbrev pub marks_weight : List Mark → ℕ
marks_weight [] = 0
marks_weight (m ∷ ms) = mark_weight m + marks_weight ms

abbrev pub rule_weight : Rule → ℕ
rule_weight r = marks_weight r.left + (marks_weight r.right + 1)

-- one for each unit, and what the sides of the productions weigh
abbrev pub weight : List Unit → ℕ
weight [] = 0
weight (Terminal name pattern regex line ∷ us) = weight us + 1
weight (Ignorable name pattern regex normal line ∷ us) = weight us + 1
weight (Production name left right line ∷ us) = rule_weight (rule_of name left right line) + weight us
weight (Fence left right line ∷ us) = weight us + 1

-- no production is too heavy to be counted by 16 bits
abbrev pub AreLight : List Rule → Type 0
AreLight rules = (k : ℕ) (r : Rule) → slice_get rules k ≡ Some r → rule_weight r < 65536

-- some bytes, at most 65,536 of them, spell the sheet
abbrev pub IsOfBytes : Sheet → Type 0
IsOfBytes s = (bytes : List ℕ) × (length bytes ≤ 65536) × IsSheetOf bytes s
