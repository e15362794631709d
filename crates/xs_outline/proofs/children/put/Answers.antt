use Rattle.xs_outline.proofs.Keeping.{pair_apart}
use Rattle.xs_outline.proofs.children.put.Goals as goal

pub returns-clause-others : goal.returns-clause-others
returns-clause-others c n s apart = c.in_ok-insert.ensures.updates.2 (n, s) (pair_apart c.args.node n c.args.slot s apart)
