use Rattle.std.proofs.Common.{◌≡◌, [], ◌∙◌, true, arith}
use Rattle.std.proofs.lemmas.List.{take_all}
use Rattle.xs_sheet.proofs.Spaced.{content_on, plain_item, empty_element, whole_element}
use Rattle.xs_sheet.proofs.Strings.{on_ok}
use Rattle.xs_sheet.proofs.writer.+push_x_item.Goals as goal

pub returns-in-Plain : goal.returns-in-Plain
returns-in-Plain t c = on_ok _ _ _ (plain_item c.args.page.now c.push_item.new.page c.args.item.now c.in-Plain.item c.in-Plain.is) c.push_item.ensures

pub returns-then-is_empty : goal.returns-then-is_empty
returns-then-is_empty t c =
    on_ok _ _ _ (empty_element c.args.page.now c.push_tag.new.page c.push_word.new.page c.args.item.now c.in-Element.tag c.in-Element.attrs c.as_slice.result.now c.in-Element.content c.in-Element.is c.as_slice.ensures (c.is_empty.ensures.0 c.if-is_empty.true) c.in_ok-push_tag-in-Element.ensures) c.push_word.ensures

pub children-preserved : goal.children-preserved
children-preserved t c = content_on c.push_word-in-Element.new.page c.children.page c.push_x_item.new.page c.as_slice-child-items.result.now c.children.child-index c.child-item.result c.children-test.true c.child-item.is c.children.invariant c.in_ok-push_x_item-in-Element.ensures

pub returns-after-children : goal.returns-after-children
returns-after-children t c =
    let some : c.in-Element.content ≡ [] → ⊥ = λ e. let yes : c.is_empty.result ≡ true = c.is_empty.ensures.1 e in cc in
    on_ok _ _ _ (whole_element c.args.page.now c.push_tag.new.page c.push_word-in-Element.new.page c.children.page c.push_end_tag.new.page c.args.item.now c.in-Element.tag c.in-Element.attrs c.as_slice.result.now c.in-Element.content _ c.in-Element.is c.as_slice.ensures some (take_all _ _ (omega arith) ∙ c.as_slice-child-items.ensures) c.in_ok-push_tag-in-Element.ensures c.in_ok-push_word-in-Element.ensures c.children.invariant) c.push_end_tag.ensures
