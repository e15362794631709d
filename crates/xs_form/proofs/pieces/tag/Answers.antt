use Rattle.std.proofs.Common.{true, false, map, Some, None, sym, ◌∙◌, ap}
use Rattle.std.specs.Option.{option_map}
use Rattle.xs_form.specs.Attributes.{shown}
use Rattle.xs_form.specs.Sorted.{shown_ordered}
use Rattle.xs_form.proofs.SortedLaws.{held_are_named}
use Rattle.xs_form.proofs.PieceLaws.{tag_is, tag_ended}
use Rattle.xs_form.proofs.pieces.tag.Goals as goal

pub in_order-requires : goal.in_order-requires
in_order-requires c = rw c.in_ok-list.ensures.kept (held_are_named _ c.in_ok-list.ensures.are)

pub returns-then-end : goal.returns-then-end
returns-then-end c =
    let list = map shown c.in_ok-list.list.items in
    tag_ended c.args.text.now c.name_run.result.0.now c.name_run.result.1.now list c.in_ok-list.more.now c.white_run.result.0.now c.white_run.result.1.now c.in-Some.end.rest.now (Some (shown_ordered c.in-Some-2.attributes)) c.in-Some.end.empty true c.name_run.ensures c.in_ok-list.ensures.kept c.in_ok-list.ensures.left c.in_ok-list.ensures.are c.white_run.ensures (sym c.is_name_text.ensures ∙ c.if-not-is_name_text.false) c.in-Some.ensures (ap (option_map shown_ordered) (sym c.in-Some-2.is) ∙ c.in_ok-in_order.ensures) c.if-end.true

pub returns-else-end : goal.returns-else-end
returns-else-end c =
    let list = map shown c.in_ok-list.list.items in
    tag_ended c.args.text.now c.name_run.result.0.now c.name_run.result.1.now list c.in_ok-list.more.now c.white_run.result.0.now c.white_run.result.1.now c.in-Some.end.rest.now (Some (shown_ordered c.in-Some-2.attributes)) c.in-Some.end.empty false c.name_run.ensures c.in_ok-list.ensures.kept c.in_ok-list.ensures.left c.in_ok-list.ensures.are c.white_run.ensures (sym c.is_name_text.ensures ∙ c.if-not-is_name_text.false) c.in-Some.ensures (ap (option_map shown_ordered) (sym c.in-Some-2.is) ∙ c.in_ok-in_order.ensures) c.if-end.false

pub returns-in-None : goal.returns-in-None
returns-in-None c =
    let list = map shown c.in_ok-list.list.items in
    tag_is c.args.text.now c.name_run.result.0.now c.name_run.result.1.now list c.in_ok-list.more.now c.white_run.result.0.now c.white_run.result.1.now None (Some (c.in-Some.end.empty, c.in-Some.end.rest.now)) c.name_run.ensures c.in_ok-list.ensures.kept c.in_ok-list.ensures.left c.in_ok-list.ensures.are c.white_run.ensures (sym c.is_name_text.ensures ∙ c.if-not-is_name_text.false) c.in-Some.ensures (ap (option_map shown_ordered) (sym c.in-None.is) ∙ c.in_ok-in_order.ensures)
