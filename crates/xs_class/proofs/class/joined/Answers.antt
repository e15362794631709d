use Rattle.xs_class.proofs.Merging.{joined_more}
use Rattle.xs_class.proofs.class.joined.Goals as goal

pub sorted-preserved : goal.sorted-preserved
sorted-preserved c = joined_more c.args.sorted.now c.sorted.range-index c.sorted.ranges.items c.add.new.ranges.items c.requires c.sorted-test.true c.sorted.invariant c.in_ok-add.ensures
