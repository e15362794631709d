use Rattle.std.proofs.Common.{◌≡◌, ◌+◌, ◌++◌, ◌∙◌, ap, length, length-append, sym, arith}
use Rattle.xs_gram.specs.Common.{print}
use Rattle.xs_tree.specs.Flat.{common_of}
use Rattle.xs_text_out.specs.Walk.{pending, rest_word}
use Rattle.xs_text_out.proofs.Walking.{next_whole, root_room}
use Rattle.xs_text_out.proofs.walk.walk.Goals as goal

pub begin-requires-clause-room : goal.begin-requires-clause-room
begin-requires-clause-room c w is =
    let long = root_room c.args.g.now c.args.t.now c.root.result w c.root.ensures.flat c.root.ensures.root is in
    omega (arith, long, c.requires.room, ap length c.requires.no_symbols, c.args.symbols.ok.0)

pub perform-requires-clause-room : goal.perform-requires-clause-room
perform-requires-clause-room c =
    let g = c.args.g.now in
    let p = c.args.pieces.now in
    let f = c.args.t.now in
    let out = c.tasks.symbols.items in
    let left = rest_word g p f c.in-Some.task ++ pending g p f c.pop.new.self.items in
    let whole = next_whole g p f out (print g (common_of f)) c.tasks.tasks.items c.pop.new.self.items c.in-Some.task c.tasks.invariant.whole c.in-Some.ensures.items in
    let within : length out + length left ≡ length (print g (common_of f)) = sym (length-append out left) ∙ ap length whole in
    omega (arith, within, c.tasks.symbols.ok.0, c.tasks.invariant.room)

pub tasks-preserved : goal.tasks-preserved
tasks-preserved c = record {
  whole = c.perform.ensures.prints ∙ next_whole c.args.g.now c.args.pieces.now c.args.t.now c.tasks.symbols.items (print c.args.g.now (common_of c.args.t.now)) c.tasks.tasks.items c.pop.new.self.items c.in-Some.task c.tasks.invariant.whole c.in-Some.ensures.items;
  falling = c.perform.ensures.falling;
  room = omega (arith, c.tasks.invariant.room, c.perform.ensures.room);
  stack = omega (arith, c.tasks.invariant.stack, c.perform.ensures.stack, c.in-Some.ensures.capacity);
}
