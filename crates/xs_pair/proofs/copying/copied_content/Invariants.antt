use Rattle.std.proofs.Common.{◌≡◌, take}
use Rattle.xs_sheet.specs.Outline.{content_of}
use Rattle.xs_pair.proofs.copying.copied_content.Given as goal

abbrev pub invariant-items : goal.invariant-items
invariant-items l = content_of l.content ≡ content_of (take l.item-index l.items)
