use Rattle.xs_forest_laws.proofs.Root.{exact}
use Rattle.xs_forest_laws.proofs.laws.root_is_exact.Goals as goal

pub returns : goal.returns
returns c = exact
