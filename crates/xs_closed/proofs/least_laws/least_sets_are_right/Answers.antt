use Rattle.xs_closed.proofs.LeastLemmas.{least_is_apart, least_is_clear}
use Rattle.xs_closed.proofs.least_laws.least_sets_are_right.Goals as goal

pub returns-clause-apart : goal.returns-clause-apart
returns-clause-apart c = least_is_apart

pub returns-clause-clear : goal.returns-clause-clear
returns-clause-clear c = least_is_clear
