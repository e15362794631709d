use Rattle.std.proofs.Common.{inr}
use Rattle.xs_text_out.proofs.Walking.{leaf_prints, node_begun, node_prints_on}
use Rattle.xs_text_out.proofs.walk.begin.Goals as goal

pub returns-in-Some-clause-prints : goal.returns-in-Some-clause-prints
returns-in-Some-clause-prints c =
    leaf_prints c.args.g.now c.args.pieces.now c.args.t.now c.args.part c.in-Some.word.now c.args.symbols.now.items c.append.new.symbols.items c.args.tasks.now.items c.requires.flat c.requires.part c.in-Some.ensures c.append.ensures.items

pub returns-in-None-clause-prints : goal.returns-in-None-clause-prints
returns-in-None-clause-prints c =
    let all = node_begun c.args.g.now c.args.pieces.now c.args.t.now c.args.part c.task_of-task.result c.requires.flat c.requires.part c.in-None.ensures c.task_of-task.ensures.part c.task_of-task.ensures.prints in
    node_prints_on c.args.g.now c.args.pieces.now c.args.t.now c.args.part c.task_of-task.result c.args.symbols.now.items c.args.tasks.now.items c.push_reserved.new.self.items all c.push_reserved.ensures.items

pub returns-in-None-clause-begun : goal.returns-in-None-clause-begun
returns-in-None-clause-begun c = inr (c.task_of-task.result, c.task_of-task.ensures.part, c.push_reserved.ensures.items)
