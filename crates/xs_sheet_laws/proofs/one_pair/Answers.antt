use Rattle.xs_sheet_laws.proofs.Pairs.{one_pair_lem}
use Rattle.xs_sheet_laws.proofs.Meant.{one_pair_of_bytes_lem}
use Rattle.xs_sheet_laws.proofs.one_pair.Goals as goal

pub returns-clause-sheet : goal.returns-clause-sheet
returns-clause-sheet c = one_pair_lem

pub returns-clause-bytes : goal.returns-clause-bytes
returns-clause-bytes c = one_pair_of_bytes_lem
