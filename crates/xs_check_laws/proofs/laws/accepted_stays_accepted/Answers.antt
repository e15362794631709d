use Rattle.xs_check_laws.proofs.MoreClear.{stays_accepted}
use Rattle.xs_check_laws.proofs.laws.accepted_stays_accepted.Goals as goal

pub returns : goal.returns
returns c = stays_accepted
