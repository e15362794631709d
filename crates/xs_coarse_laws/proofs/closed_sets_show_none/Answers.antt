use Rattle.xs_coarse_laws.proofs.Suspects.{apart_shares_none, clear_overlaps_not}
use Rattle.xs_coarse_laws.proofs.closed_sets_show_none.Goals as goal

pub returns-clause-apart : goal.returns-clause-apart
returns-clause-apart c = apart_shares_none

pub returns-clause-clear : goal.returns-clause-clear
returns-clause-clear c = clear_overlaps_not
