use Rattle.std.proofs.Common.{◌≡◌, ◌++◌, take}
use Rattle.xs_sheet.specs.Layout.{items_words, spaced}
use Rattle.xs_sheet.proofs.writer.push_items.Given as goal

abbrev pub invariant-items : goal.invariant-items
invariant-items l = l.page ≡ l.initial.page ++ spaced (items_words (take l.item-index l.items))
