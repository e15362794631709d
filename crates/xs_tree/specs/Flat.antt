-- Flat trees: a list of parts, the children of each before it, and the common tree that each means.
use Rattle.std.specs.Prelude.{◌≡◌, ℕ, ◌<◌, List, [], ◌∷◌, ◌++◌, length, All, Option, None, Some, slice_get, slice_index_or}
use Rattle.xs_gram.specs.Common.{Common, word, made, Kids, no_kid, kid}

-- a part: a leaf with its word, or a node with its production and the places of its children in the
-- order of the slots
pub data TreePart : Type 0 where
  Leaf : List ℕ → TreePart
  Node : ℕ → List ℕ → TreePart

-- the parts, and the place of the root among them
pub record Flat : Type 0 where
  pub parts : List TreePart
  pub root : ℕ

-- the children of the part stand below a place
abbrev pub IsAfter : TreePart → ℕ → Type 0
IsAfter (Leaf w) place = Unit {0}
IsAfter (Node production kids) place = All (λ kid. kid < place) kids

-- the children of each part stand before it
abbrev pub AreRising : List TreePart → Type 0
AreRising parts = (i : ℕ) (part : TreePart) → slice_get parts i ≡ Some part → IsAfter part i

-- the root is one of the parts, and each part stands after its children
pub record IsFlat (f : Flat) : Type 0 where
  pub root : f.root < length f.parts
  pub rising : AreRising f.parts

-- the production of a part, which a leaf has not
abbrev pub production_of : Option TreePart → Option ℕ
production_of None = None
production_of (Some (Leaf w)) = None
production_of (Some (Node production kids)) = Some production

-- the places of a part's children in the order of the slots: none at a leaf
abbrev pub kids_of : Option TreePart → List ℕ
kids_of None = []
kids_of (Some (Leaf w)) = []
kids_of (Some (Node production kids)) = kids

-- the word of a part, which a node has not
abbrev pub word_of : Option TreePart → Option (List ℕ)
word_of None = None
word_of (Some (Leaf w)) = Some w
word_of (Some (Node production kids)) = None

-- the tree at a place of a list
abbrev pub tree_at : List Common → ℕ → Common
tree_at trees k = slice_index_or trees k (word [])

-- the trees at these places, as children
abbrev pub kids_at : List Common → List ℕ → Kids
kids_at trees [] = no_kid
kids_at trees (k ∷ ks) = kid (tree_at trees k) (kids_at trees ks)

-- the tree of a part, where those of the parts before it are given
abbrev pub tree_of : List Common → TreePart → Common
tree_of trees (Leaf w) = word w
tree_of trees (Node production kids) = made production (kids_at trees kids)

-- these trees, then those of the parts, each made of trees before it
abbrev pub trees_after : List Common → List TreePart → List Common
trees_after trees [] = trees
trees_after trees (part ∷ parts) = trees_after (trees ++ tree_of trees part ∷ []) parts

-- the common trees of the parts, in the order of the parts
abbrev pub trees_of : List TreePart → List Common
trees_of parts = trees_after [] parts

-- the common tree of part i
abbrev pub common_at : Flat → ℕ → Common
common_at f i = tree_at (trees_of f.parts) i

-- the common tree that a flat tree means
abbrev pub common_of : Flat → Common
common_of f = common_at f f.root
