use Rattle.xs_sheet_laws.proofs.Failing.{alike_sheets_lem}
use Rattle.xs_sheet_laws.proofs.alike_sheets_mean_the_same.Goals as goal

pub returns : goal.returns
returns c = alike_sheets_lem
