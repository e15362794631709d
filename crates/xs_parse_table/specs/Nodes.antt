-- What is right of a single node: each item by its part, and the children only by their ends.
use Rattle.std.specs.Prelude.{◌≡◌, ℕ, suc, ◌<◌, ◌≤◌, List, [], ◌∷◌, length, Some, slice_get, slice_range}
use Rattle.xs_gram.specs.declared.parts.GItem.{GItem}
use Rattle.xs_gram.specs.declared.parts.GItem.TheVariants.{Fixed, Term, Non, Skip}
use Rattle.xs_gram.specs.Grammar.{Grammar, items, IsRuleOf, IsTermWord, IsSkipWord}
use Rattle.xs_parse_table.specs.declared.table.Node.{Node}
use Rattle.xs_parse_table.specs.Tables.{IsSpan}

-- the part is the place where the item ends, and from one place up to it stands a word of the item
pub record IsWordPart (P : List ℕ → Type 0) (doc : List ℕ) (at part to : ℕ) : Type 0 where
  pub end : to ≡ part
  pub span : IsSpan doc at to (slice_range doc at to)
  pub word : P (slice_range doc at to)

-- the part is an earlier node of a rule of the nonterminal, which begins at one place and ends at another
pub record IsChild (g : Grammar) (doc : List ℕ) (nodes : List Node) (v non at part to : ℕ) : Type 0 where
  pub node : Node
  pub there : slice_get nodes part ≡ Some node
  pub earlier : part < v
  pub from : node.from ≡ at
  pub end : to ≡ node.to
  pub within : to ≤ length doc
  pub rule : IsRuleOf g non node.production

-- an item of node v that begins at a place of the document and has this part ends at another place
abbrev pub ItemEnds : Grammar → List ℕ → List Node → ℕ → GItem → ℕ → ℕ → ℕ → Type 0
ItemEnds g doc nodes v (Fixed f) at part to = IsWordPart (λ w. w ≡ f) doc at part to
ItemEnds g doc nodes v (Term t s) at part to = IsWordPart (λ w. IsTermWord g t w) doc at part to
ItemEnds g doc nodes v (Non n s) at part to = IsChild g doc nodes v n at part to
ItemEnds g doc nodes v (Skip k) at part to = IsWordPart (λ w. IsSkipWord g k w) doc at part to

-- the items of node v, one after another, by the parts from number k on
abbrev pub ItemsEnd : Grammar → List ℕ → List Node → List ℕ → ℕ → ℕ → List GItem → ℕ → ℕ → Type 0
ItemsEnd g doc nodes parts v k [] at end = at ≡ end
ItemsEnd g doc nodes parts v k (i ∷ is) at end =
    (part : ℕ) × (to : ℕ) × (slice_get parts k ≡ Some part) × ItemEnds g doc nodes v i at part to × ItemsEnd g doc nodes parts v (suc k) is to end

-- node v is of a rule, and its items go from its beginning up to its end
pub record IsNode (g : Grammar) (doc : List ℕ) (nodes : List Node) (parts : List ℕ) (v : ℕ) (node : Node) : Type 0 where
  pub rule : node.production < length g.rules
  pub within : node.to ≤ length doc
  pub items : ItemsEnd g doc nodes parts v node.parts (items g node.production) node.from node.to

-- the node is of a rule of the start, and goes over the whole document
pub record IsRoot (g : Grammar) (doc : List ℕ) (node : Node) : Type 0 where
  pub rule : IsRuleOf g g.start node.production
  pub from : node.from ≡ 0
  pub to : node.to ≡ length doc
