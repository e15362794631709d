use Rattle.std.proofs.Common.{◌∙◌, ap, add-one}
use Rattle.xs_leiden.specs.Made.{after_item}
use Rattle.xs_leiden.proofs.More.{item_more}
use Rattle.xs_leiden.proofs.items.push_items.Goals as goal

pub items-preserved : goal.items-preserved
items-preserved c =
    rw (add-one c.items._place) (
      item_more c.args.text.now c.items.text c.push.new.self c.push_item.new.text c.items._place c.args.draws.now.state c.items.draws.state c.items.invariant.0 c.items.invariant.1 c.in_ok-push.ensures.ok c.in_ok-push_item.ensures.text,
      c.in_ok-push_item.ensures.state ∙ ap after_item c.items.invariant.1,
    )
