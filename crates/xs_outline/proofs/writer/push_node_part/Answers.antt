use Rattle.std.proofs.Common.{arith}
use Rattle.std.specs.Str.{chars}
use Rattle.std.proofs.lemmas.Result.{on_ok_weaker}
use Rattle.xs_outline.specs.Lines.{production, line}
use Rattle.xs_outline.specs.Walk.{task_at}
use Rattle.xs_outline.proofs.Walking.{node_can, node_step, opened, line_grows, one_more}
use Rattle.xs_outline.proofs.writer.push_node_part.Goals as goal

pub returns-clause-inside : goal.returns-clause-inside
returns-clause-inside c =
    on_ok_weaker _ (opened c.args.two.now c.args.tree.now c.args.tasks.now.items c.enter.new.tasks.items c.args.child.part 0 c.requires.inside c.requires.part (node_can c.args.two.now c.args.tree.now c.args.child.part c.rule_of-rule.result c.requires.flat c.requires.part c.rule_of-rule.ensures c.requires.can)) c.enter.ensures

pub returns-clause-writes : goal.returns-clause-writes
returns-clause-writes c =
    on_ok_weaker _ (λ pushed. node_step c.args.two.now c.args.tree.now c.args.child.part c.len.result c.rule_of-rule.result (chars c.args.child.name.now) c.args.page.now c.push_node.new.page c.args.tasks.now.items c.enter.new.tasks.items c.requires.flat c.requires.part c.rule_of-rule.ensures (omega (arith, c.len.ensures, c.args.tasks.now.ok.0)) c.in_ok-push_node.ensures pushed) c.enter.ensures

pub returns-clause-longer : goal.returns-clause-longer
returns-clause-longer c = on_ok_weaker _ (λ pushed. line_grows c.args.page.now c.push_node.new.page (line c.len.result (chars c.args.child.name.now) (production c.rule_of-rule.result)) c.in_ok-push_node.ensures) c.enter.ensures

pub returns-clause-fewer : goal.returns-clause-fewer
returns-clause-fewer c =
    on_ok_weaker _ (λ pushed. one_more c.args.tasks.now.items c.enter.new.tasks.items (task_at c.args.child.part 0) pushed) c.enter.ensures
