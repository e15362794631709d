use Rattle.std.proofs.Common.{◌≡◌, take}
use Rattle.xs_sheet.specs.Outline.{content_of}
use Rattle.xs_pair.proofs.copying.+copied_x_item.Given as goal

abbrev pub invariant-children : goal.invariant-children
invariant-children l = content_of l.inside ≡ content_of (take l.child-index l.child-items)
