-- The parts of a flat tree as rows of places in two lists: that of all children, and that of the
-- symbols of all leaves.
use Rattle.std.specs.Prelude.{ℕ, ◌≤◌, List, length, map, All, slice_range}
use Rattle.xs_tree.specs.declared.parts.Row.{Row}
use Rattle.xs_tree.specs.declared.parts.Row.TheVariants.{Word, Made}
use Rattle.xs_tree.specs.Flat.{TreePart, Leaf, Node}

-- the part of a row: a leaf has the word between two places, a node the children
abbrev pub row_part : List ℕ → List ℕ → Row → TreePart
row_part kids symbols (Word begin end) = Leaf (slice_range symbols begin end)
row_part kids symbols (Made production begin end) = Node production (slice_range kids begin end)

-- the parts of the rows
abbrev pub row_parts : List ℕ → List ℕ → List Row → List TreePart
row_parts kids symbols rows = map (row_part kids symbols) rows

-- the places of the row are places of lists so long
abbrev pub IsWithin : ℕ → ℕ → Row → Type 0
IsWithin kids symbols (Word begin end) = (begin ≤ end) × (end ≤ symbols)
IsWithin kids symbols (Made production begin end) = (begin ≤ end) × (end ≤ kids)

-- the places of all rows are places of these lists
abbrev pub AreWithin : List ℕ → List ℕ → List Row → Type 0
AreWithin kids symbols rows = All (IsWithin (length kids) (length symbols)) rows
