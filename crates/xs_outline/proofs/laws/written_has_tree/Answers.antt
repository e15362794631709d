use Rattle.xs_outline.proofs.LawProofs.{written_lem}
use Rattle.xs_outline.proofs.laws.written_has_tree.Goals as goal

pub returns : goal.returns
returns c = written_lem
