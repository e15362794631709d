-- A part as a tree lends it.
use Rattle.xs_tree.specs.declared.part.Part.{Part}
use Rattle.xs_tree.specs.declared.part.Part.TheVariants.{Leaf as LentLeaf, Node as LentNode}
use Rattle.xs_tree.specs.Flat.{TreePart, Leaf, Node}

-- the part that is lent
abbrev pub lent : Part → TreePart
lent (LentLeaf word) = Leaf word.now
lent (LentNode production kids) = Node production kids.now
