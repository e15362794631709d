-- Trees as outlines have them: the children of a node in any order, each with its slot.
use Rattle.std.specs.Prelude.{◌≡◌, ℕ, suc, Bool, true, List, [], ◌∷◌, ◌++◌, length, None, Some, codes, is_some, slice_get, slice_set, slice_index_or, replicate}
use Rattle.std.specs.declared.option.Option.{Option}
use Rattle.std.specs.List.{list_all}
use Rattle.xs_gram.specs.Grammar.{items, IsRuleOf, IsTermWord}
use Rattle.xs_gram.specs.Common.{Common, word, made, Kids, no_kid, kid, child_of, lookup, Kind, of_term, of_non, kinds}
use Rattle.xs_pair.specs.Grammars.{Pair}
use Rattle.xs_outline.specs.Lines.{production, leaf_word, Line, line}

-- A leaf with its word, or a node with its production and its children in the order of their lines,
-- each with the number of its slot.
mutual
  pub data Shape : Type 0 where
    leaf : List ℕ → Shape
    node : ℕ → Branches → Shape

  pub data Branches : Type 0 where
    none : Branches
    branch : ℕ → Shape → Branches → Branches

-- the names of a production's slots
abbrev pub names_of : Pair → ℕ → List (List ℕ)
names_of p q = slice_index_or p.slots q []

abbrev pub slot_count : Pair → ℕ → ℕ
slot_count p q = length (names_of p q)

abbrev pub slot_name : Pair → ℕ → ℕ → List ℕ
slot_name p q s = slice_index_or (names_of p q) s []

-- what may stand at a slot
abbrev pub kind_at : Pair → ℕ → ℕ → Option Kind
kind_at p q s = lookup s (kinds (items p.text q))

-- the child at each slot of a node, as far as it has one
abbrev pub empty_cells : Pair → ℕ → List (Option Common)
empty_cells p q = replicate (slot_count p q) None

abbrev pub is_full : List (Option Common) → Bool
is_full cells = list_all is_some cells

-- the children in the order of the slots
abbrev pub kids_in : List (Option Common) → Kids
kids_in [] = no_kid
kids_in (c ∷ cs) = kid (child_of c) (kids_in cs)

-- the tree that a shape is, and the children of a node with those of some more branches
abbrev mutual
  pub meaning : Pair → Shape → Common
  meaning p (leaf w) = word w
  meaning p (node q bs) = made q (kids_in (filled p (empty_cells p q) bs))

  pub filled : Pair → List (Option Common) → Branches → List (Option Common)
  filled p cells none = cells
  filled p cells (branch s sh bs) = filled p (slice_set cells s (Some (meaning p sh))) bs

-- A word is of its slot's terminal, and a node of a production of its slot's nonterminal; the
-- branches of a node are at its slots that have no child yet, each once.
abbrev mutual
  pub ShapeFits : Pair → Option Kind → Shape → Type 0
  ShapeFits p (Some (of_term t)) (leaf w) = IsTermWord p.text t w
  ShapeFits p (Some (of_non n)) (node q bs) = IsRuleOf p.text n q × BranchesFit p q (empty_cells p q) bs
  ShapeFits p kind sh = ⊥

  pub BranchesFit : Pair → ℕ → List (Option Common) → Branches → Type 0
  BranchesFit p q cells none = is_full cells ≡ true
  BranchesFit p q cells (branch s sh bs) =
      (slice_get cells s ≡ Some None) × ShapeFits p (kind_at p q s) sh
      × BranchesFit p q (slice_set cells s (Some (meaning p sh))) bs

-- the lines of a shape: its own, and one level deeper those of its branches
abbrev mutual
  pub lines : Pair → ℕ → List ℕ → Shape → List Line
  lines p depth name (leaf w) = line depth name (leaf_word w) ∷ []
  lines p depth name (node q bs) = line depth name (production q) ∷ branch_lines p q (suc depth) bs

  pub branch_lines : Pair → ℕ → ℕ → Branches → List Line
  branch_lines p q depth none = []
  branch_lines p q depth (branch s sh bs) = lines p depth (slot_name p q s) sh ++ branch_lines p q depth bs

-- the name of the root
abbrev pub root_name : List ℕ
root_name = codes "tree"

-- what the root may be: a node of a production of the start
abbrev pub root_kind : Pair → Option Kind
root_kind p = Some (of_non p.text.start)

-- there are names for each production's slots, as many as there are slots
pub record HasSlotNames (p : Pair) : Type 0 where
  pub rules : length p.slots ≡ length p.text.rules
  pub counts : (q : ℕ) → length (kinds (items p.text q)) ≡ slot_count p q
