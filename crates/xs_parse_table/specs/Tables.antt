-- What a parse table says of a document: the derivation at a node.
use Rattle.std.specs.Prelude.{◌≡◌, ℕ, suc, ◌≤◌, List, length, Some, slice_get, slice_range}
use Rattle.xs_gram.specs.Derivations.{Parts, done, fixed, leaf, skip, sub, Derivation}
use Rattle.xs_parse_table.specs.declared.table.Node.{Node}
use Rattle.xs_parse_table.specs.declared.table.ParseTable.{ParseTable}

-- the word stands in the document from one place up to another
pub record IsSpan (doc : List ℕ) (at to : ℕ) (w : List ℕ) : Type 0 where
  pub risen : at ≤ to
  pub within : to ≤ length doc
  pub word : w ≡ slice_range doc at to

-- The parts that a list of numbers means from number k on, where they begin at one place of the
-- document and end at another: a number is the place where a word ends, or a nonterminal's node.
abbrev pub ArePartsAt : List Node → List ℕ → List ℕ → ℕ → ℕ → ℕ → Parts → Type 0
ArePartsAt nodes parts doc k at end done = at ≡ end
ArePartsAt nodes parts doc k at end (fixed w ps) = (to : ℕ) × (slice_get parts k ≡ Some to) × IsSpan doc at to w × ArePartsAt nodes parts doc (suc k) to end ps
ArePartsAt nodes parts doc k at end (leaf w ps) = (to : ℕ) × (slice_get parts k ≡ Some to) × IsSpan doc at to w × ArePartsAt nodes parts doc (suc k) to end ps
ArePartsAt nodes parts doc k at end (skip w ps) = (to : ℕ) × (slice_get parts k ≡ Some to) × IsSpan doc at to w × ArePartsAt nodes parts doc (suc k) to end ps
ArePartsAt nodes parts doc k at end (sub q qs ps) =
    (v : ℕ) × (node : Node) × (slice_get parts k ≡ Some v) × (slice_get nodes v ≡ Some node) × (node.production ≡ q) × (node.from ≡ at) × (node.to ≤ length doc)
    × ArePartsAt nodes parts doc node.parts node.from node.to qs × ArePartsAt nodes parts doc (suc k) node.to end ps

-- the derivation that a table means at a node
pub record IsTreeAt (table : ParseTable) (doc : List ℕ) (v : ℕ) (d : Derivation) : Type 0 where
  pub node : Node
  pub there : slice_get table.nodes.items v ≡ Some node
  pub rule : d.rule ≡ node.production
  pub parts : ArePartsAt table.nodes.items table.parts.items doc node.parts node.from node.to d.parts

-- the derivation that a table means: that at its last node
pub record IsTreeOf (table : ParseTable) (doc : List ℕ) (d : Derivation) : Type 0 where
  pub root : ℕ
  pub last : suc root ≡ length table.nodes.items
  pub tree : IsTreeAt table doc root d
