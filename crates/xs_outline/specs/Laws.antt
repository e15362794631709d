-- Laws over outlines.
use Rattle.std.specs.Prelude.{◌≡◌, ◌↔◌, ℕ, List, ◌++◌}
use Rattle.xs_gram.specs.Common.{Common, TreeFits}
use Rattle.xs_gram.specs.Laws.{HasNumberedSlots}
use Rattle.xs_gram.specs.Sound.{IsSound}
use Rattle.xs_sheet.specs.declared.sheet.Sheet.{Sheet}
use Rattle.xs_sheet.specs.Grammar.{IsSheetOf}
use Rattle.xs_pair.specs.Grammars.{Pair, IsPairOf}
use Rattle.xs_outline.specs.Lines.{Line}
use Rattle.xs_outline.specs.Shapes.{lines, root_name}
use Rattle.xs_outline.specs.Order.{shape_of, outline_of}
use Rattle.xs_outline.specs.Outline.{AreLinesOf, IsOutline}
use Rattle.xs_outline.specs.Machine.{at_start, complete, MayAllCome, Passes}

-- an outline is of one tree
abbrev pub HasOneTree : Type 0
HasOneTree = (s : Sheet) (p : Pair) → IsPairOf s p → HasNumberedSlots p.text → (w : List ℕ) (t u : Common) → IsOutline p w t → IsOutline p w u → t ≡ u

-- the lines that are written of a tree are lines of it
abbrev pub WrittenHasTree : Type 0
WrittenHasTree = (s : Sheet) (p : Pair) → IsPairOf s p → (t : Common) → TreeFits p.text p.text.start t → AreLinesOf p (lines p 0 root_name (shape_of p t)) t

-- what is written of a tree is an outline of it
abbrev pub WrittenIsOutline : Type 0
WrittenIsOutline = (bytes : List ℕ) (s : Sheet) (p : Pair) → IsSheetOf bytes s → IsPairOf s p → (t : Common) → TreeFits p.text p.text.start t → IsOutline p (outline_of p t) t

-- the lines of a tree are those that lead to it one by one
abbrev pub LeadsToTree : Type 0
LeadsToTree = (s : Sheet) (p : Pair) → IsPairOf s p → HasNumberedSlots p.text → (ls : List Line) (t : Common) → AreLinesOf p ls t ↔ Passes p at_start ls (complete t)

-- the lines that begin those of some tree are those that may come one by one
abbrev pub BeginsTree : Type 0
BeginsTree = (s : Sheet) (p : Pair) → IsPairOf s p → IsSound p.text → (ls : List Line) → ((more : List Line) × (t : Common) × AreLinesOf p (ls ++ more) t) ↔ MayAllCome p at_start ls
