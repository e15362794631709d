use Rattle.xs_sheet_laws.proofs.Alike.{checked_alike}
use Rattle.xs_sheet_laws.proofs.alike_are_checked_alike.Goals as goal

pub returns : goal.returns
returns c = checked_alike
