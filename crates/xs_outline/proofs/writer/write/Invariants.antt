use Rattle.std.proofs.Common.{◌≡◌, ◌+◌, ◌*◌, ◌-◌, ◌++◌, length}
use Rattle.xs_tree.specs.Flat.{common_of}
use Rattle.xs_outline.specs.Order.{outline_of}
use Rattle.xs_outline.specs.Walk.{AreOpen, pending}
use Rattle.xs_outline.proofs.writer.write.Given as goal

abbrev pub invariant-tasks : goal.invariant-tasks
invariant-tasks l = record {
  inside : AreOpen l.two l.tree l.tasks.items;
  writes : l.page ++ pending l.two l.tree 0 l.tasks.items ≡ outline_of l.two (common_of l.tree);
}

-- what is still to be written, twice, and the nodes that are open
abbrev pub decreases-tasks : goal.decreases-tasks
decreases-tasks l = 2 * (length (outline_of l.two (common_of l.tree)) - length l.page) + length l.tasks.items
