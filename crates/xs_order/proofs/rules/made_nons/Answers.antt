use Rattle.xs_order.proofs.Clauses.{clauses_below}
use Rattle.xs_order.proofs.rules.made_nons.Goals as goal

pub made-requires : goal.made-requires
made-requires c = rw (c.nons.ensures, c.deref.ensures.value) (clauses_below c.args.g.now c.args.leaves.now c.in_ok-clauses.clauses.items c.requires.built.range c.in_ok-clauses.ensures)
