use Rattle.std.proofs.Common.{◌≡◌, ◌++◌, take}
use Rattle.xs_sheet.specs.Outline.{content_of}
use Rattle.xs_sheet.specs.Layout.{content_words, spaced}
use Rattle.xs_sheet.proofs.writer.push_content.Given as goal

abbrev pub invariant-items : goal.invariant-items
invariant-items l = l.page ≡ l.initial.page ++ spaced (content_words (content_of (take l.item-index l.items)))
