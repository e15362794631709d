use Rattle.xs_sheet_laws.proofs.Upgraded.{derivations_lem}
use Rattle.xs_sheet_laws.proofs.upgrade_keeps_derivations.Goals as goal

pub returns : goal.returns
returns c = derivations_lem c.alike_sheets_mean_the_same.ensures c.one_pair.ensures.sheet c.alike_pairs_mean_the_same.ensures
