-- How the child at a slot is found among the parts of a node.
use Rattle.std.specs.Prelude.{ℕ, ◌+◌, ◌==◌, List, [], ◌∷◌, Option, None, Some, if◌then◌else◌}
use Rattle.xs_gram.specs.declared.parts.GItem.{GItem}
use Rattle.xs_gram.specs.declared.parts.GItem.TheVariants.{Fixed, Term, Non, Skip}
use Rattle.xs_table_out.specs.declared.children.Begin.{Begin}
use Rattle.xs_table_out.specs.declared.children.Begin.TheVariants.{AfterWord, AfterNode}
use Rattle.xs_table_out.specs.declared.children.Child.{Child}
use Rattle.xs_table_out.specs.declared.children.Child.TheVariants.{Nothing, Word, Node}

-- where an item begins that comes after the item of a part
abbrev pub after : ℕ → GItem → Begin
after part (Fixed f) = AfterWord part
after part (Skip k) = AfterWord part
after part (Term t s) = AfterWord part
after part (Non n s) = AfterNode part

-- what stands at a slot, if it is that of the item
abbrev pub stands : Begin → ℕ → ℕ → GItem → Option Child
stands begin part slot (Fixed f) = None
stands begin part slot (Skip k) = None
stands begin part slot (Term t s) = if s == slot then Some (Word begin part) else None
stands begin part slot (Non n s) = if s == slot then Some (Node part) else None

-- the first child of two that is there
abbrev pub or_later : Option Child → Child → Child
or_later None later = later
or_later (Some child) later = child

-- what stands at a slot of these items, which begin so with a part of this number
abbrev pub child_at : Begin → ℕ → ℕ → List GItem → Child
child_at begin part slot [] = Nothing
child_at begin part slot (item ∷ is) = or_later (stands begin part slot item) (child_at (after part item) (part + 1) slot is)
