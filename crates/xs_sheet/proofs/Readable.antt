-- A sheet that was read may be written.
use Rattle.std.proofs.Common.{ℕ, List, refl}
use Rattle.xs_sheet.specs.declared.sheet.Sheet.{Sheet}
use Rattle.xs_sheet.specs.Grammar.{IsSheetOf}
use Rattle.xs_sheet.specs.Lines.{IsReadable}

pub read_is_readable : (bytes : List ℕ) (s : Sheet) → IsSheetOf bytes s → IsReadable s
read_is_readable bytes s is = record { bytes = bytes; read = s; is = is; same = refl }
