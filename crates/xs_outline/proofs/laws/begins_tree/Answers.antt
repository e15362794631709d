use Rattle.xs_outline.proofs.LawProofs.{begins_lem}
use Rattle.xs_outline.proofs.laws.begins_tree.Goals as goal

pub returns : goal.returns
returns c = begins_lem
