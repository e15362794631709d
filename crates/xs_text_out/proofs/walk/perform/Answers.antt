use Rattle.std.proofs.Common.{◌∙◌, ◌++◌, [], length, arith}
use Rattle.xs_text_out.specs.Walk.{pending, rest_word}
use Rattle.xs_text_out.proofs.Walking.{entered, falling_front, falling_last, falling_length, less_gone, next_room, printed_before}
use Rattle.xs_text_out.proofs.walk.perform.Goals as goal

pub print_pieces-requires-clause-part : goal.print_pieces-requires-clause-part
print_pieces-requires-clause-part c = falling_last (length c.args.t.now.parts) c.nodes.tasks.items c.nodes.task c.nodes.invariant.falling

pub print_pieces-requires-clause-room : goal.print_pieces-requires-clause-room
print_pieces-requires-clause-room c =
    let g = c.args.g.now in
    let p = c.args.pieces.now in
    let f = c.args.t.now in
    let within = next_room c.nodes.symbols.items (rest_word g p f c.nodes.task) (pending g p f c.nodes.tasks.items) c.args.symbols.now.items (rest_word g p f c.args.task ++ pending g p f c.args.tasks.now.items) c.nodes.invariant.whole in
    omega (arith, within, c.nodes.symbols.ok.0, c.args.symbols.now.ok.0, c.nodes.invariant.room, c.requires.room)

pub task_of-begun-requires-clause-part : goal.task_of-begun-requires-clause-part
task_of-begun-requires-clause-part c =
    let last = falling_last (length c.args.t.now.parts) c.nodes.tasks.items c.nodes.task c.nodes.invariant.falling in
    omega (arith, last, c.in-Some.ensures.entry.kid.before)

pub put_aside-requires : goal.put_aside-requires
put_aside-requires c =
    let long = falling_length (length c.args.t.now.parts) c.nodes.tasks.items c.nodes.task c.nodes.invariant.falling in
    omega (arith, long, c.requires.stack, c.nodes.invariant.stack, c.nodes.tasks.ok.0)

pub nodes-preserved : goal.nodes-preserved
nodes-preserved c =
    let known = c.nodes.invariant in
    let next = entered c.args.g.now c.args.pieces.now c.args.t.now c.nodes.task c.task_of-begun.result c.in-Some.entry c.nodes.tasks.items c.put_aside.new.tasks.items c.nodes.symbols.items c.print_pieces.new.symbols.items c.requires.flat known.falling c.in-Some.ensures.entry c.task_of-begun.ensures.part c.task_of-begun.ensures.prints c.put_aside.ensures.aside c.in-Some.ensures.prints in
    record {
      whole = next.0 ∙ known.whole;
      falling = next.1;
      less = omega (arith, next.2, known.less);
      room = omega (arith, c.in-Some.ensures.room, known.room);
      stack = c.put_aside.ensures.stack ∙ known.stack;
    }

pub nodes-smaller : goal.nodes-smaller
nodes-smaller c = omega (arith, c.task_of-begun.ensures.part, c.in-Some.ensures.entry.kid.before)

pub returns-clause-prints : goal.returns-clause-prints
returns-clause-prints c =
    let g = c.args.g.now in
    let p = c.args.pieces.now in
    let f = c.args.t.now in
    printed_before c.print_pieces.new.symbols.items c.nodes.symbols.items [] (rest_word g p f c.nodes.task) (pending g p f c.nodes.tasks.items) c.in_default.ensures.prints ∙ c.nodes.invariant.whole

pub returns-clause-falling : goal.returns-clause-falling
returns-clause-falling c = falling_front (length c.args.t.now.parts) c.nodes.tasks.items c.nodes.task c.nodes.invariant.falling

pub returns-clause-less : goal.returns-clause-less
returns-clause-less c =
    let gone = less_gone c.args.pieces.now c.nodes.tasks.items c.nodes.task in
    omega (arith, gone, c.nodes.invariant.less)
