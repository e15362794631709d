use Rattle.xs_closed.proofs.RowLemmas.{rows_are_marks, rows_are_one}
use Rattle.xs_closed.proofs.laws.rows_are_marks.Goals as goal

pub returns-clause-marks : goal.returns-clause-marks
returns-clause-marks c = rows_are_marks

pub returns-clause-one : goal.returns-clause-one
returns-clause-one c = rows_are_one
