use Rattle.std.proofs.Common.{◌≡◌, ◌∙◌, List, ℕ, take, arith, ap, sym}
use Rattle.std.proofs.lemmas.List.{take_all}
use Rattle.xs_sheet.specs.declared.x_item.Attr.{Attr}
use Rattle.xs_sheet.specs.declared.x_item.XItem.{XItem, Element}
use Rattle.xs_sheet.specs.Outline.{with_item, content_of}
use Rattle.xs_pair.proofs.CopiedUnits.{content_next, element_same}
use Rattle.xs_pair.proofs.copying.+copied_x_item.Goals as goal

pub children-preserved : goal.children-preserved
children-preserved t c = content_next c.children.inside c.as_slice-child-items.result.now c.push.new.self c.children.child-index c.in_ok-child-in-Element.child c.child-item.result c.children-test.true c.child-item.is c.children.invariant c.in_ok-child-in-Element.ensures c.in_ok-push-in-Element.ensures.ok

pub returns-after-children : goal.returns-after-children
returns-after-children t c = λ before.
    let whole : take c.children.child-index c.as_slice-child-items.result.now ≡ c.in-Element.content = take_all _ _ (omega arith) ∙ c.as_slice-child-items.ensures in
    ap (λ (n : List ℕ). with_item (Element n c.in_ok-attrs-in-Element.attrs c.children.inside) before) c.in_ok-tag-in-Element.ensures ∙ ap (λ (as_ : List Attr). with_item (Element c.in-Element.tag as_ c.children.inside) before) (c.in_ok-attrs-in-Element.ensures ∙ c.as_slice.ensures) ∙ element_same c.in-Element.tag c.in-Element.attrs c.children.inside c.in-Element.content before (c.children.invariant ∙ ap content_of whole) ∙ ap (λ (x : XItem). with_item x before) (sym c.in-Element.is)
