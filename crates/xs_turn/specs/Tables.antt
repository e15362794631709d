-- The common tree of a parse table, made node by node.
use Rattle.std.specs.Prelude.{◌≡◌, ℕ, ◌<◌, List, [], ◌∷◌, ◌++◌, length, Some, slice_get, slice_index, slice_index_or, slice_set, slice_range}
use Rattle.xs_gram.specs.declared.parts.GItem.{GItem}
use Rattle.xs_gram.specs.declared.parts.GItem.TheVariants.{Fixed, Term, Non, Skip}
use Rattle.xs_gram.specs.Grammar.{Grammar, items, slots}
use Rattle.xs_gram.specs.Derivations.{Parts, FitsItems}
use Rattle.xs_gram.specs.Common.{Common, word, made, children, named}
use Rattle.xs_parse_table.specs.declared.table.Node.{Node}
use Rattle.xs_parse_table.specs.declared.table.ParseTable.{ParseTable}
use Rattle.xs_parse_table.specs.Tables.{ArePartsAt}
use Rattle.xs_tree.specs.Flat.{tree_at}

-- the numbers are those of the slots of all productions
abbrev pub AreSlotCounts : Grammar → List ℕ → Type 0
AreSlotCounts g counts = (length counts ≡ length g.rules) × ((p : ℕ) → p < length counts → slice_index_or counts p 0 ≡ length (slots (items g p)))

-- the parts are of the node's production, and the table means them at the node
abbrev pub AreNodeParts : Grammar → List ℕ → ParseTable → Node → Parts → Type 0
AreNodeParts g doc table node ps = FitsItems g (items g node.production) ps × ArePartsAt table.nodes.items table.parts.items doc node.parts node.from node.to ps

-- the tree of this number is that of the node, whatever parts the table means there
pub record IsNodeTree (g : Grammar) (doc : List ℕ) (table : ParseTable) (trees : List Common) (node : Node) (number : ℕ) : Type 0 where
  pub there : number < length trees
  pub tree : (ps : Parts) → AreNodeParts g doc table node ps → tree_at trees number ≡ made node.production (children (named g (items g node.production) ps))

-- the first nodes have these numbers
abbrev pub AreNodeTrees : Grammar → List ℕ → ParseTable → List Common → List ℕ → Type 0
AreNodeTrees g doc table trees numbers = (u number : ℕ) (node : Node) → slice_get numbers u ≡ Some number → slice_get table.nodes.items u ≡ Some node → IsNodeTree g doc table trees node number

-- the list goes on
abbrev pub Grows : List Common → List Common → Type 0
Grows old new = (more : List Common) × (new ≡ old ++ more)

-- at the slot of each entry stands the number of its tree
abbrev pub AreKids : List Common → List ℕ → List (ℕ × Common) → Type 0
AreKids trees kids [] = Unit {0}
AreKids trees kids (e ∷ es) = (e.0 < length kids) × (slice_index kids e.0 < length trees) × (tree_at trees (slice_index kids e.0) ≡ e.1) × AreKids trees kids es

-- the slots of the entries
abbrev pub slots_of : List (ℕ × Common) → List ℕ
slots_of [] = []
slots_of (e ∷ es) = e.0 ∷ slots_of es

-- the kids are those of the node, whatever parts the table means there
pub record AreNodeKids (g : Grammar) (doc : List ℕ) (table : ParseTable) (trees : List Common) (kids : List ℕ) (node : Node) : Type 0 where
  pub entries : List (ℕ × Common)
  pub slots_are : slots_of entries ≡ slots (items g node.production)
  pub kids_are : AreKids trees kids entries
  pub named_are : (ps : Parts) → AreNodeParts g doc table node ps → named g (items g node.production) ps ≡ entries

-- a leaf is made, and its number stands at the slot
pub record IsLeafPlaced (doc : List ℕ) (slot at to : ℕ) (trees : List Common) (kids : List ℕ) (trees' : List Common) (kids' : List ℕ) : Type 0 where
  pub below : slot < length kids
  pub leaf : trees' ≡ trees ++ word (slice_range doc at to) ∷ []
  pub put : kids' ≡ slice_set kids slot (length trees)

-- the number of a node's tree stands at the slot
pub record IsNodePlaced (nodes : List Node) (numbers : List ℕ) (slot part : ℕ) (kids kids' : List ℕ) (to : ℕ) : Type 0 where
  pub below : slot < length kids
  pub number : ℕ
  pub numbered : slice_get numbers part ≡ Some number
  pub node : Node
  pub there : slice_get nodes part ≡ Some node
  pub put : kids' ≡ slice_set kids slot number
  pub end : to ≡ node.to

-- what has a slot is placed there, and the item ends
abbrev pub IsPlaced : List ℕ → List Node → List ℕ → GItem → ℕ → ℕ → List Common → List ℕ → List Common → List ℕ → ℕ → Type 0
IsPlaced doc nodes numbers (Fixed f) at part trees kids trees' kids' to = (trees' ≡ trees) × (kids' ≡ kids) × (to ≡ part)
IsPlaced doc nodes numbers (Skip k) at part trees kids trees' kids' to = (trees' ≡ trees) × (kids' ≡ kids) × (to ≡ part)
IsPlaced doc nodes numbers (Term t s) at part trees kids trees' kids' to = IsLeafPlaced doc s at part trees kids trees' kids' × (to ≡ part)
IsPlaced doc nodes numbers (Non n s) at part trees kids trees' kids' to = IsNodePlaced nodes numbers s part kids kids' to × (trees' ≡ trees)
