use Rattle.std.proofs.Common.{◌≡◌, ◌++◌, take}
use Rattle.xs_sheet.specs.Outline.{content_of}
use Rattle.xs_sheet.specs.Layout.{content_words, spaced}
use Rattle.xs_sheet.proofs.writer.+push_x_item.Given as goal

abbrev pub invariant-children : goal.invariant-children
invariant-children l = l.page ≡ l.initial.page ++ spaced (content_words (content_of (take l.child-index l.child-items)))
