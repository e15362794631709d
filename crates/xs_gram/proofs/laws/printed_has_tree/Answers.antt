use Rattle.xs_gram.proofs.Printed.{printed_has_tree_lem}
use Rattle.xs_gram.proofs.laws.printed_has_tree.Goals as goal

pub returns : goal.returns
returns c = printed_has_tree_lem
