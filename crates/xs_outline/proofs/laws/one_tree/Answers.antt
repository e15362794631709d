use Rattle.xs_outline.proofs.LawProofs.{one_tree_lem}
use Rattle.xs_outline.proofs.laws.one_tree.Goals as goal

pub returns : goal.returns
returns c = one_tree_lem
