use Rattle.xs_check_laws.proofs.Components.{components_decided}
use Rattle.xs_check_laws.proofs.laws.components_are_decided.Goals as goal

pub returns : goal.returns
returns c = components_decided
