use Rattle.std.proofs.Common.{refl}
use Rattle.std.specs.Str.{chars}
use Rattle.xs_tree.specs.Flat.{common_of}
use Rattle.xs_outline.specs.Order.{outline_of}
use Rattle.xs_outline.proofs.Walking.{popped_task, root_step, task_step, walk_falls}
use Rattle.xs_outline.specs.Shapes.{root_name}
use Rattle.xs_outline.proofs.writer.write.Goals as goal

pub tasks-init : goal.tasks-init
unfolding chars
tasks-init c = record {
  inside = c.in_ok-push_part.ensures.inside;
  writes = root_step c.args.two.now c.args.tree.now c.root.result c.args.page.now c.push_part.new.page root_name c.new-tasks.result.items c.push_part.new.tasks.items c.new-tasks.ensures.items c.requires.empty c.root.ensures.root refl c.in_ok-push_part.ensures.writes;
}

pub perform-requires-clause-part : goal.perform-requires-clause-part
perform-requires-clause-part c = (popped_task c.args.two.now c.args.tree.now c.tasks.tasks.items c.pop.new.self.items c.in-Some.task c.in-Some.ensures.items c.tasks.invariant.inside).0

pub perform-requires-clause-node : goal.perform-requires-clause-node
perform-requires-clause-node c = (popped_task c.args.two.now c.args.tree.now c.tasks.tasks.items c.pop.new.self.items c.in-Some.task c.in-Some.ensures.items c.tasks.invariant.inside).1

pub perform-requires-clause-inside : goal.perform-requires-clause-inside
perform-requires-clause-inside c = (popped_task c.args.two.now c.args.tree.now c.tasks.tasks.items c.pop.new.self.items c.in-Some.task c.in-Some.ensures.items c.tasks.invariant.inside).2

pub tasks-preserved : goal.tasks-preserved
tasks-preserved c = record {
  inside = c.in_ok-perform.ensures.inside;
  writes = task_step c.args.two.now c.args.tree.now c.tasks.page c.perform.new.page (outline_of c.args.two.now (common_of c.args.tree.now)) c.tasks.tasks.items c.pop.new.self.items c.perform.new.tasks.items c.in-Some.task c.in-Some.ensures.items c.tasks.invariant.writes c.in_ok-perform.ensures.writes;
}

pub tasks-smaller : goal.tasks-smaller
tasks-smaller c =
    let writes = task_step c.args.two.now c.args.tree.now c.tasks.page c.perform.new.page (outline_of c.args.two.now (common_of c.args.tree.now)) c.tasks.tasks.items c.pop.new.self.items c.perform.new.tasks.items c.in-Some.task c.in-Some.ensures.items c.tasks.invariant.writes c.in_ok-perform.ensures.writes in
    walk_falls c.args.two.now c.args.tree.now c.tasks.page c.perform.new.page (outline_of c.args.two.now (common_of c.args.tree.now)) c.tasks.tasks.items c.pop.new.self.items c.perform.new.tasks.items c.in-Some.task c.in-Some.ensures.items writes c.in_ok-perform.ensures.falls
