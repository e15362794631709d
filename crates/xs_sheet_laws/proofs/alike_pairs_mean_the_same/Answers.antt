use Rattle.xs_sheet_laws.proofs.Meant.{alike_pairs_lem}
use Rattle.xs_sheet_laws.proofs.alike_pairs_mean_the_same.Goals as goal

pub returns : goal.returns
returns c = alike_pairs_lem
