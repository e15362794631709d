use Rattle.xs_outline.proofs.LawProofs.{leads_lem}
use Rattle.xs_outline.proofs.laws.leads_to_tree.Goals as goal

pub returns : goal.returns
returns c = leads_lem
