-- Sheets but for the lines of their units.
use Rattle.std.specs.Prelude.{◌≡◌, ℕ, ◌+◌, List, [], ◌∷◌, map}
use Rattle.xs_sheet.specs.declared.unit.Unit.{Unit}
use Rattle.xs_sheet.specs.declared.unit.Unit.TheVariants.{Terminal, Ignorable, Production, Fence}
use Rattle.xs_sheet.specs.declared.sheet.Sheet.{Sheet}
use Rattle.xs_sheet.specs.Grammar.{IsSheetOf}

-- the unit on this line
abbrev pub at_line : ℕ → Unit → Unit
at_line line (Terminal name pattern regex old) = Terminal name pattern regex line
at_line line (Ignorable name pattern regex normal old) = Ignorable name pattern regex normal line
at_line line (Production name left right old) = Production name left right line
at_line line (Fence left right old) = Fence left right line

-- the units on a line each, from this line on
abbrev pub in_lines : ℕ → List Unit → List Unit
in_lines line [] = []
in_lines line (u ∷ us) = at_line line u ∷ in_lines (line + 1) us

-- the sheet with the lines of its layout
abbrev pub laid_out : Sheet → Sheet
laid_out s = record { version = s.version; start = s.start; start_line = 2; units = in_lines 3 s.units }

-- the sheet with no lines
abbrev pub without_lines : Sheet → Sheet
without_lines s = record { version = s.version; start = s.start; start_line = 0; units = map (at_line 0) s.units }

abbrev pub AreSameButLines : Sheet → Sheet → Type 0
AreSameButLines s t = without_lines s ≡ without_lines t

-- some bytes have the sheet, lines aside
pub record IsReadable (s : Sheet) : Type 0 where
  pub bytes : List ℕ
  pub read : Sheet
  pub is : IsSheetOf bytes read
  pub same : AreSameButLines read s

-- the bytes have the sheet, with the lines of its layout
pub record IsReadAgain (bytes : List ℕ) (s : Sheet) : Type 0 where
  pub is : IsSheetOf bytes (laid_out s)
  pub same : AreSameButLines (laid_out s) s
