-- What C is told.
use Rattle.std.specs.Prelude.{◌≡◌, ◌⊎◌, ℕ, List}
use Rattle.xs_talk.specs.Lines.{line}
use Rattle.xs_talk.specs.declared.outcome.Report.{Report}
use Rattle.xs_talk.specs.declared.outcome.Report.TheVariants.{Vertical, Horizontal}
use Rattle.xs_talk.specs.declared.outcome.Outcome.{Outcome}
use Rattle.xs_talk.specs.declared.outcome.Outcome.TheVariants.{Done, Foreign, SheetLong, SheetBad, SheetIll, Heavy, Suspect, NotUtf8, NotXml, Usage, SheetFault, ReadFault, WriteFault, NoteFault, DocLong, ScriptBad, OutlineBad, CertFault, CertLong, CertBad}
use Rattle.xs_top.specs.Ran.{status_of}
use Rattle.xs_c.specs.declared.answer.Answer.{Answer}

-- the number by which C knows an outcome
abbrev pub kind_of : Outcome → ℕ
kind_of Done = 0
kind_of (Foreign viable) = 1
kind_of SheetLong = 2
kind_of (SheetBad at) = 3
kind_of (SheetIll ill) = 4
kind_of (Heavy weight) = 5
kind_of (Suspect report) = 6
kind_of (NotUtf8 at) = 7
kind_of (NotXml at) = 8
kind_of Usage = 9
kind_of SheetFault = 10
kind_of ReadFault = 11
kind_of (WriteFault written) = 12
kind_of (NoteFault of written) = 13
kind_of DocLong = 14
kind_of (ScriptBad line) = 15
kind_of (OutlineBad line) = 16
kind_of CertFault = 17
kind_of CertLong = 18
kind_of (CertBad line) = 19

-- the line of a suspect's first production
abbrev pub line_in : Report → ℕ
line_in (Vertical side name line line2 word) = line
line_in (Horizontal side name line cut x a y) = line

-- the number that an outcome tells, or 0
abbrev pub place_of : Outcome → ℕ
place_of Done = 0
place_of (Foreign viable) = viable
place_of SheetLong = 0
place_of (SheetBad at) = at
place_of (SheetIll ill) = ill.line
place_of (Heavy weight) = weight
place_of (Suspect report) = line_in report
place_of (NotUtf8 at) = at
place_of (NotXml at) = at
place_of Usage = 0
place_of SheetFault = 0
place_of ReadFault = 0
place_of (WriteFault written) = written
place_of (NoteFault of written) = written
place_of DocLong = 0
place_of (ScriptBad line) = line
place_of (OutlineBad line) = line
place_of CertFault = 0
place_of CertLong = 0
place_of (CertBad line) = line

-- the answer has these bytes and the numbers of an outcome, and the status is that of the outcome
pub record IsTold (bytes : List ℕ) (o : Outcome) (answer : Answer) (status : ℕ) : Type 0 where
  pub bytes_are : answer.bytes.now ≡ bytes
  pub place_is : answer.place ≡ place_of o
  pub kind_is : answer.kind ≡ kind_of o
  pub status_is : status ≡ status_of o

-- memory ran out, and nothing was told
pub record IsWanting (before after : Answer) (status : ℕ) : Type 0 where
  pub same : after ≡ before
  pub status_is : status ≡ 8

-- the outcome is told by its line, or memory ran out
abbrev pub IsRefusal : List (List ℕ) → Outcome → Answer → Answer → ℕ → Type 0
IsRefusal names o before after status = IsTold (line names o) o after status ⊎ IsWanting before after status
