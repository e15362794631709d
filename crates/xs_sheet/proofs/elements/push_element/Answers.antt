use Rattle.std.proofs.Common.{◌∙◌, ap, List}
use Rattle.xs_sheet.specs.declared.x_item.Attr.{Attr}
use Rattle.xs_sheet.specs.declared.x_item.XItem.{XItem}
use Rattle.xs_sheet.specs.Outline.{content_of, element}
use Rattle.xs_sheet.proofs.ContentLaws.{content_push, with_element}
use Rattle.xs_sheet.proofs.elements.push_element.Goals as goal

pub returns : goal.returns
returns c =
    ap (λ (z : List XItem). content_of z) c.in_ok-push.ensures.items ∙ content_push c.args.outer.items _ ∙ with_element c.args.tag c.from_vec.result c.from_vec-2.result (content_of c.args.outer.items) ∙ ap (λ (z : List Attr). element (content_of c.args.outer.items) c.args.tag z (content_of c.from_vec-2.result)) c.from_vec.ensures ∙ ap (λ (z : List XItem). element (content_of c.args.outer.items) c.args.tag c.args.attrs.items (content_of z)) c.from_vec-2.ensures
