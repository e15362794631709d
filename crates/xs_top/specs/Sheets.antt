-- The sheet of a command, and why there is none.
use Rattle.std.specs.Prelude.{◌≡◌, ◌⊎◌, ℕ, List}
use Rattle.xs_io.specs.Shown.{Files, IsFile, IsLongFile, NameFailed}
use Rattle.xs_leiden.specs.Sheet.{leiden_core, leiden_core_2}
use Rattle.xs_words.specs.Command.{Sheet as Named, leiden, leiden2, file}
use Rattle.xs_sheet.specs.declared.sheet.Sheet.{Sheet}
use Rattle.xs_sheet.specs.Grammar.{IsSheetOf, IsSheetBrokenAt}
use Rattle.xs_sheet.specs.Layout.{sheet_bytes}
use Rattle.xs_sheet.specs.Lines.{IsReadAgain}
use Rattle.xs_pair.specs.declared.ill.Ill.{Ill}
use Rattle.xs_pair.specs.Grammars.{Pair, IsPairOf}
use Rattle.xs_pair.specs.Upgrades.{IsUpgrade}
use Rattle.xs_wf.specs.Rules.{IsWell, IsIll}
use Rattle.xs_talk.specs.declared.outcome.Outcome.{Outcome}
use Rattle.xs_talk.specs.declared.outcome.Outcome.TheVariants.{SheetFault, SheetLong, SheetBad, SheetIll}
use Rattle.xs_top.specs.Devices.{Shelves}

-- the sheet's bytes, by what is known of a shelf's files; there are at most 65,536
abbrev pub AreBytesOf : Files → Named → List ℕ → Type 0
AreBytesOf files leiden bytes = bytes ≡ leiden_core
AreBytesOf files leiden2 bytes = bytes ≡ leiden_core_2
AreBytesOf files (file name) bytes = IsFile files name bytes 65536

-- the sheet is a file that failed: the count of the shelf rose, and that of the name where the file is known
abbrev pub IsFailed : Shelves → Named → Type 0
IsFailed shelf leiden = ⊥
IsFailed shelf leiden2 = ⊥
IsFailed shelf (file name) = NameFailed shelf.files name shelf.faults_before shelf.faults_now (shelf.name_before name) (shelf.name_now name)

-- the sheet is a file of more than 65,536 bytes
abbrev pub IsLong : Files → Named → Type 0
IsLong files leiden = ⊥
IsLong files leiden2 = ⊥
IsLong files (file name) = IsLongFile files name 65536

-- why the bytes cannot be had
abbrev pub IsStopped : Shelves → Named → Outcome → Type 0
IsStopped shelf sheet SheetFault = IsFailed shelf sheet
IsStopped shelf sheet SheetLong = IsLong shelf.files sheet
IsStopped shelf sheet other = ⊥

-- the bytes spell no sheet, and this is the place where no sheet goes on
pub record IsBadSheet (bytes : List ℕ) (at : ℕ) : Type 0 where
  pub broken : IsSheetBrokenAt bytes at
  pub none : (s : Sheet) → IsSheetOf bytes s → ⊥

-- the bytes spell a sheet of which this rule is the first to fail, and this its least line
pub record IsIllSheet (bytes : List ℕ) (ill : Ill) : Type 0 where
  pub sheet : Sheet
  pub spelled : IsSheetOf bytes sheet
  pub is_ill : IsIll sheet ill

-- the bytes spell a well-formed sheet with these two grammars
pub record IsPairOfBytes (bytes : List ℕ) (p : Pair) : Type 0 where
  pub sheet : Sheet
  pub spelled : IsSheetOf bytes sheet
  pub well : IsWell sheet
  pub pair : IsPairOf sheet p

-- the bytes spell a well-formed sheet, and the answer is its upgrade as it is written, which reads as that
pub record IsUpgradeOfBytes (bytes answer : List ℕ) : Type 0 where
  pub sheet : Sheet
  pub spelled : IsSheetOf bytes sheet
  pub well : IsWell sheet
  pub upgraded : Sheet
  pub upgrade : IsUpgrade sheet upgraded
  pub written : answer ≡ sheet_bytes upgraded
  pub read_again : IsReadAgain answer upgraded

-- why the bytes spell no well-formed sheet
abbrev pub IsBadBytes : List ℕ → Outcome → Type 0
IsBadBytes bytes (SheetBad at) = IsBadSheet bytes at
IsBadBytes bytes (SheetIll ill) = IsIllSheet bytes ill
IsBadBytes bytes other = ⊥

-- the sheet that is asked for spells these two grammars
pub record SpellsPair (files : Files) (sheet : Named) (p : Pair) : Type 0 where
  pub bytes : List ℕ
  pub are : AreBytesOf files sheet bytes
  pub is : IsPairOfBytes bytes p

-- the answer is the upgrade of the sheet that is asked for
pub record SpellsUpgrade (files : Files) (sheet : Named) (answer : List ℕ) : Type 0 where
  pub bytes : List ℕ
  pub are : AreBytesOf files sheet bytes
  pub is : IsUpgradeOfBytes bytes answer

-- why it spells no grammars: its bytes cannot be had, or are no well-formed sheet
abbrev pub IsUnpaired : Shelves → Named → Outcome → Type 0
IsUnpaired shelf sheet o = IsStopped shelf sheet o ⊎ ((bytes : List ℕ) × AreBytesOf shelf.files sheet bytes × IsBadBytes bytes o)
