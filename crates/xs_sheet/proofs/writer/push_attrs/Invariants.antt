use Rattle.std.proofs.Common.{◌≡◌, ◌++◌, take}
use Rattle.xs_sheet.specs.Layout.{attrs_words, spaced}
use Rattle.xs_sheet.proofs.writer.push_attrs.Given as goal

abbrev pub invariant-attrs : goal.invariant-attrs
invariant-attrs l = l.page ≡ l.initial.page ++ spaced (attrs_words (take l.attr-index l.attrs))
