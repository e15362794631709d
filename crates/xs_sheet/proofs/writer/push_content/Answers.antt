use Rattle.xs_sheet.proofs.Spaced.{content_on}
use Rattle.xs_sheet.proofs.writer.push_content.Goals as goal

pub items-preserved : goal.items-preserved
items-preserved c = content_on c.args.page.now c.items.page c.push_x_item.new.page c.args.items.now c.items.item-index c.item-item.result c.items-test.true c.item-item.is c.items.invariant c.in_ok-push_x_item.ensures
