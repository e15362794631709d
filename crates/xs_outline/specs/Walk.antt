-- The nodes that a walk over a flat tree is in, the innermost last, and what is still to be written of them.
use Rattle.std.specs.Prelude.{◌≡◌, ℕ, suc, ◌<◌, List, [], ◌∷◌, ◌++◌, length, drop, true, slice_get, Some}
use Rattle.std.specs.Str.{all_scalars}
use Rattle.xs_gram.specs.Grammar.{items}
use Rattle.xs_gram.specs.Common.{Common, word, made, KidsFit}
use Rattle.xs_tree.specs.Flat.{Flat, common_at}
use Rattle.xs_pair.specs.Grammars.{Pair}
use Rattle.xs_outline.specs.Lines.{lines_text}
use Rattle.xs_outline.specs.Shapes.{lines, branch_lines}
use Rattle.xs_outline.specs.Order.{order_of, branches_at, shape_of, shapes_of}
use Rattle.xs_outline.specs.declared.writer.Task.{Task}

abbrev pub task_at : ℕ → ℕ → Task
task_at part dot = record { part = part; dot = dot }

-- what is written of a tree
abbrev pub tree_text : Pair → ℕ → List ℕ → Common → List ℕ
tree_text p depth name t = lines_text (lines p depth name (shape_of p t))

-- what is written of a node's children from one on, in the order of their names
abbrev pub rest_text : Pair → ℕ → ℕ → Common → List ℕ
rest_text p depth dot (word w) = []
rest_text p depth dot (made q kids) = lines_text (branch_lines p q depth (branches_at (drop dot (order_of p q)) (shapes_of p kids)))

-- a production that is there, with a child that fits for each of its slots
abbrev pub IsNode : Pair → Common → Type 0
IsNode p (word w) = ⊥
IsNode p (made q kids) = (q < length p.text.rules) × KidsFit p.text (items p.text q) 0 kids

-- a word of characters, or such a node
abbrev pub CanWrite : Pair → Common → Type 0
CanWrite p (word w) = all_scalars w ≡ true
CanWrite p (made q kids) = (q < length p.text.rules) × KidsFit p.text (items p.text q) 0 kids

-- each is a node of the tree
abbrev pub AreOpen : Pair → Flat → List Task → Type 0
AreOpen p f [] = Unit {0}
AreOpen p f (task ∷ tasks) = (task.part < length f.parts) × IsNode p (common_at f task.part) × AreOpen p f tasks

-- what is still to be written of the nodes, where so many are around the first
abbrev pub pending : Pair → Flat → ℕ → List Task → List ℕ
pending p f depth [] = []
pending p f depth (task ∷ tasks) = pending p f (suc depth) tasks ++ rest_text p (suc depth) task.dot (common_at f task.part)

-- each production has its slots in the order of their names
abbrev pub AreOrders : Pair → List (List ℕ) → Type 0
AreOrders p orders = (q : ℕ) → q < length p.text.rules → slice_get orders q ≡ Some (order_of p q)
