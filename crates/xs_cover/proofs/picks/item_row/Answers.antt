use Rattle.xs_cover.specs.declared.pick.Pick.TheVariants.{Whole}
use Rattle.xs_cover.proofs.Growing.{found_row, found_right}
use Rattle.xs_cover.proofs.picks.item_row.Goals as goal

pub returns-in-Non : goal.returns-in-Non
returns-in-Non c = found_right c.args.forest.now c.in-Non.non c.in-Non.slot c.args.item.now c.find.result c.in-Non.is (found_row c.args.forest.now (Whole c.in-Non.non) c.find.result (c.requires c.in-Non.non c.in-Non.slot c.in-Non.is) c.find.ensures.found)
