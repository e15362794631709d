use Rattle.xs_sheet_laws.proofs.Sheets.{one_sheet_lem}
use Rattle.xs_sheet_laws.proofs.one_sheet.Goals as goal

pub returns : goal.returns
returns c = one_sheet_lem
