use Rattle.xs_check_laws.proofs.Walks.{yields_are_loose}
use Rattle.xs_check_laws.proofs.laws.yields_are_loose.Goals as goal

pub returns : goal.returns
returns c = yields_are_loose
