use Rattle.std.specs.Str.{chars}
use Rattle.std.proofs.lemmas.Result.{on_ok_weaker}
use Rattle.xs_outline.proofs.Walking.{opened, child_step}
use Rattle.xs_outline.proofs.writer.perform.Goals as goal

pub push_part-requires-clause-inside : goal.push_part-requires-clause-inside
push_part-requires-clause-inside c =
    opened c.args.two.now c.args.tree.now c.args.tasks.now.items c.enter.new.tasks.items c.args.task.part c.in-Some.child.count c.requires.inside c.requires.part c.requires.node c.in_ok-enter.ensures

pub returns-clause-writes : goal.returns-clause-writes
returns-clause-writes c =
    on_ok_weaker _ (child_step c.args.two.now c.args.tree.now c.args.task.part c.args.task.dot c.in-Some.child.count c.in-Some.child.part (chars c.in-Some.child.name.now) c.args.page.now c.push_part.new.page c.args.tasks.now.items c.enter.new.tasks.items c.push_part.new.tasks.items c.in-Some.ensures.1 c.in_ok-enter.ensures c.in-Some.ensures.3) c.push_part.ensures.writes
