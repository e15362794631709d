-- What an outline is, which tree it is of, and from which line on a document is none.
use Rattle.std.specs.Prelude.{◌≡◌, ℕ, suc, ◌≤◌, List, ◌++◌, length, take}
use Rattle.xs_gram.specs.Common.{Common}
use Rattle.xs_pair.specs.Grammars.{Pair}
use Rattle.xs_outline.specs.Lines.{Line, AreSpelt, text_lines}
use Rattle.xs_outline.specs.Shapes.{Shape, ShapeFits, meaning, lines, root_name, root_kind}

-- the lines are those of a shape of the tree
pub record AreLinesOf (p : Pair) (ls : List Line) (t : Common) : Type 0 where
  pub shape : Shape
  pub fits : ShapeFits p (root_kind p) shape
  pub are : ls ≡ lines p 0 root_name shape
  pub means : t ≡ meaning p shape

-- the characters are an outline of the tree
pub record IsOutline (p : Pair) (w : List ℕ) (t : Common) : Type 0 where
  pub lines : List Line
  pub spelt : AreSpelt lines (text_lines w)
  pub tree : AreLinesOf p lines t

-- the texts spell the first lines of some outline
pub record BeginsOutline (p : Pair) (texts : List (List ℕ)) : Type 0 where
  pub lines : List Line
  pub more : List Line
  pub tree : Common
  pub spelt : AreSpelt lines texts
  pub whole : AreLinesOf p (lines ++ more) tree

-- The characters are no outline, and this line, counted from 1, is the first such that the lines up
-- to it begin none; where all lines begin one it is one more than their number.
pub record IsBadAt (p : Pair) (w : List ℕ) (line : ℕ) : Type 0 where
  pub none : (t : Common) → IsOutline p w t → ⊥
  pub before : ℕ
  pub is : line ≡ suc before
  pub within : before ≤ length (text_lines w)
  pub begins : BeginsOutline p (take before (text_lines w))
  pub greatest : (k : ℕ) → k ≤ length (text_lines w) → BeginsOutline p (take k (text_lines w)) → k ≤ before
