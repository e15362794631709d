use Rattle.std.proofs.Common.{length}
use Rattle.xs_order.proofs.Steps.{steps_below, flags_of_reached}
use Rattle.xs_order.proofs.words.reached.Goals as goal

pub made-requires : goal.made-requires
made-requires c = rw (c.len.ensures, c.deref.ensures.value) (steps_below c.args.automaton.now c.in_ok-clauses.clauses.items c.requires.formed c.in_ok-clauses.ensures)

pub returns : goal.returns
returns c = flags_of_reached c.args.automaton.now c.in_ok-clauses.clauses.items (length c.args.automaton.now.classes) c.in_ok-flags.flags c.in_ok-clauses.ensures (rw (c.len.ensures, c.deref.ensures.value) at c.in_ok-flags.ensures)
