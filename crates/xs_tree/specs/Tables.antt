-- Parts that stand in a table once each, so that equal trees have equal numbers.
use Rattle.std.specs.Prelude.{◌≡◌, ◌⊎◌, ℕ, ◌<◌, List, [], ◌∷◌, ◌++◌, length, map, All, Some, slice_get, slice_index}
use Rattle.xs_tree.specs.Flat.{TreePart, Leaf, Node, AreRising, tree_at, trees_of}
use Rattle.xs_tree.specs.declared.table.Shape.{Shape}
use Rattle.xs_tree.specs.declared.table.Shape.TheVariants.{Word, Made}
use Rattle.xs_gram.specs.Common.{Common}

-- a shape as a part
abbrev pub part_of : Shape → TreePart
part_of (Word symbols) = Leaf symbols.items
part_of (Made production kids) = Node production kids.items

-- the numbers at these places
abbrev pub picked : List ℕ → List ℕ → List ℕ
picked numbers places = map (λ k. slice_index numbers k) places

-- the part with its children's numbers in place of their places
abbrev pub renumbered : List ℕ → TreePart → TreePart
renumbered numbers (Leaf w) = Leaf w
renumbered numbers (Node production kids) = Node production (picked numbers kids)

-- no part stands twice
abbrev pub AreDifferent : List TreePart → Type 0
AreDifferent parts = (j k : ℕ) (part : TreePart) → slice_get parts j ≡ Some part → slice_get parts k ≡ Some part → j ≡ k

-- the part stands last in the new table, or the table is as it was
abbrev pub IsGrown : List TreePart → TreePart → List TreePart → Type 0
IsGrown old part new = (new ≡ old) ⊎ (new ≡ old ++ part ∷ [])

-- the parts are different, and each stands after its children
pub record IsTable (parts : List TreePart) : Type 0 where
  pub rising : AreRising parts
  pub different : AreDifferent parts

-- the new table begins with the old one
pub record Extends (old new : List TreePart) : Type 0 where
  pub more : List TreePart
  pub is : new ≡ old ++ more

-- the numbers are places in the table of parts that mean these trees
pub record AreNumbered (table : List TreePart) (trees : List Common) (numbers : List ℕ) : Type 0 where
  pub means : map (λ n. tree_at (trees_of table) n) numbers ≡ trees
  pub there : All (λ n. n < length table) numbers
