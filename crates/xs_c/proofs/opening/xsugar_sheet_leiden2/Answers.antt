use Rattle.std.proofs.Common.{ℕ, List, subst}
use Rattle.xs_c.specs.Sheets.{IsOpened}
use Rattle.xs_c.proofs.opening.xsugar_sheet_leiden2.Goals as goal

pub returns : goal.returns
returns c = subst (λ (bytes : List ℕ). IsOpened bytes c.open.new.sheet.held.kept c.args.answer.now c.open.new.answer c.open.result) c.leiden2_sheet.ensures c.open.ensures
