use Rattle.xs_forest_laws.proofs.All.{fitting_is_unfolded as unfolded}
use Rattle.xs_forest_laws.proofs.laws.fitting_is_unfolded.Goals as goal

pub returns : goal.returns
returns c = unfolded
