use Rattle.xs_outline.proofs.LawProofs.{outline_lem}
use Rattle.xs_outline.proofs.laws.written_is_outline.Goals as goal

pub returns : goal.returns
returns c = outline_lem
