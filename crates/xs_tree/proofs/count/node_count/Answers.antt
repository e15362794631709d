use Rattle.std.proofs.Common.{◌+◌}
use Rattle.xs_tree.specs.Counts.{capped, picked_sum}
use Rattle.xs_tree.proofs.Counting.{picked_step, picked_end, capped_small}
use Rattle.xs_tree.proofs.count.node_count.Goals as goal

pub kids-preserved : goal.kids-preserved
kids-preserved c = record {
  so_far = picked_step c.kids.count (capped (1 + picked_sum c.args.counts.now c.args.kids.now)) c.args.counts.now c.args.kids.now c.kids.kid-index c.saturating_add-count.result c.kids-test.true c.saturating_add-count.ensures c.kids.invariant.so_far;
  small = capped_small _ _ c.saturating_add-count.ensures;
}

pub returns : goal.returns
returns c = picked_end c.kids.count (1 + picked_sum c.args.counts.now c.args.kids.now) c.args.counts.now c.args.kids.now c.kids.kid-index c.kids-test.false c.kids.invariant.small c.kids.invariant.so_far
