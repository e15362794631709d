use Rattle.xs_sheet_laws.proofs.Upgraded.{well_lem}
use Rattle.xs_sheet_laws.proofs.upgrade_is_well.Goals as goal

pub returns : goal.returns
returns c = well_lem c.alike_sheets_mean_the_same.ensures
