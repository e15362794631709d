use Rattle.xs_check_laws.proofs.Unique.{accepted_is_unique}
use Rattle.xs_check_laws.proofs.laws.accepted_is_unique.Goals as goal

pub returns : goal.returns
returns c = accepted_is_unique
