use Rattle.xs_closed.proofs.ReachedLemmas.{reached_is_shared, reached_is_overlap}
use Rattle.xs_closed.proofs.least_laws.reached_shows.Goals as goal

pub returns-clause-shared : goal.returns-clause-shared
returns-clause-shared c = reached_is_shared

pub returns-clause-overlap : goal.returns-clause-overlap
returns-clause-overlap c = reached_is_overlap
