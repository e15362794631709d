use Rattle.std.proofs.Common.{Some}
use Rattle.xs_forest_laws.proofs.Once.{reading_is_once as once}
use Rattle.xs_forest_laws.proofs.laws.reading_is_once.Goals as goal

pub returns : goal.returns
returns c = λ g w f right r u v hu hv e. once g w f right u v (Some r) hu hv e
