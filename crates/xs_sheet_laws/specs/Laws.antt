-- The laws: bytes have one sheet, and a sheet has one pair of grammars.
use Rattle.std.specs.Prelude.{ℕ, List}
use Rattle.xs_sheet.specs.declared.sheet.Sheet.{Sheet}
use Rattle.xs_sheet.specs.Grammar.{IsSheetOf}
use Rattle.xs_pair.specs.Grammars.{Pair, IsPairOf}
use Rattle.xs_sheet_laws.specs.Sheets as S
use Rattle.xs_sheet_laws.specs.Pairs as P

-- two sheets of the same bytes are alike
abbrev pub OneSheet : Type 0
OneSheet = (bytes : List ℕ) (s t : Sheet) → IsSheetOf bytes s → IsSheetOf bytes t → S.AreAlike s t

-- sheets that are alike mean the same
abbrev pub AlikeSheetsMeanTheSame : Type 0
AlikeSheetsMeanTheSame = (s t : Sheet) → S.AreAlike s t → S.MeanTheSame s t

-- two pairs of grammars of a sheet are alike
abbrev pub OnePair : Type 0
OnePair = (s : Sheet) (p q : Pair) → IsPairOf s p → IsPairOf s q → P.AreAlike p q

-- two pairs of grammars of the same bytes are alike
abbrev pub OnePairOfBytes : Type 0
OnePairOfBytes = (bytes : List ℕ) (s t : Sheet) (p q : Pair) → IsSheetOf bytes s → IsSheetOf bytes t → IsPairOf s p → IsPairOf t q → P.AreAlike p q

-- pairs of grammars that are alike mean the same
abbrev pub AlikePairsMeanTheSame : Type 0
AlikePairsMeanTheSame = (p q : Pair) → P.AreAlike p q → P.MeanTheSame p q
