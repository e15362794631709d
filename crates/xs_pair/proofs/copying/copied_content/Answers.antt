use Rattle.xs_pair.proofs.CopiedUnits.{content_next}
use Rattle.xs_pair.proofs.copying.copied_content.Goals as goal

pub items-preserved : goal.items-preserved
items-preserved c = content_next c.items.content c.args.items.now c.push.new.self c.items.item-index c.in_ok-item.item c.item-item.result c.items-test.true c.item-item.is c.items.invariant c.in_ok-item.ensures c.in_ok-push.ensures.ok
