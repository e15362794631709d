use Rattle.xs_sheet_laws.proofs.Alike.{mean_the_same}
use Rattle.xs_sheet_laws.proofs.alike_mean_the_same.Goals as goal

pub returns : goal.returns
returns c = mean_the_same
