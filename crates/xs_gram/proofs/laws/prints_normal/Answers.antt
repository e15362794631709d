use Rattle.xs_gram.proofs.Printing.{prints_normal_lem}
use Rattle.xs_gram.proofs.laws.prints_normal.Goals as goal

pub returns : goal.returns
returns c = prints_normal_lem
