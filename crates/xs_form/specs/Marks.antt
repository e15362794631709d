-- The marks of a name.
use Rattle.std.specs.Prelude.{ℕ}
use Rattle.xs_class.specs.Marks.{opening_mark, attribute_mark, closing_mark}
use Rattle.xs_form.specs.declared.marks.Mark.{Mark}
use Rattle.xs_form.specs.declared.marks.Mark.TheVariants.{Opening, Attribute, Closing}

-- the number of this mark of name k
abbrev pub numbered : Mark → ℕ → ℕ
numbered Opening = opening_mark
numbered Attribute = attribute_mark
numbered Closing = closing_mark
