use Rattle.xs_sheet_laws.proofs.Upgraded.{accepted_lem}
use Rattle.xs_sheet_laws.proofs.upgrade_stays_accepted.Goals as goal

pub returns : goal.returns
returns c = accepted_lem c.alike_sheets_mean_the_same.ensures c.one_pair.ensures.sheet c.alike_pairs_mean_the_same.ensures c.alike_mean_the_same.ensures c.alike_are_checked_alike.ensures c.accepted_stays_accepted.ensures
