use Rattle.std.proofs.Common.{subst}
use Rattle.xs_tree.specs.Flat.{IsAfter}
use Rattle.xs_tree.specs.Lent.{lent}
use Rattle.xs_tree.proofs.tree.Tree.kids.Goals as goal

pub returns-in-Node-clause-before : goal.returns-in-Node-clause-before
returns-in-Node-clause-before c = subst (λ p. IsAfter (lent p) c.args.i) c.in-Node.is c.part.ensures.before
