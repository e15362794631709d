-- What a run did, outcome by outcome.
use Rattle.std.specs.Prelude.{◌≡◌, ◌⊎◌, ℕ, ◌<◌, ◌≤◌, Bool, true, false, List, [], take, length, None, Some}
use Rattle.std.specs.declared.option.Option.{Option}
use Rattle.std.specs.Io.KnownBytes.{Appends}
use Rattle.std.specs.Str.{IsUtf8}
use Rattle.xs_io.specs.Causes.{Rose}
use Rattle.xs_io.specs.Whole.{Drains, Exceeds, TakesAtMost}
use Rattle.xs_class.specs.declared.side.Side.{Side}
use Rattle.xs_class.specs.declared.side.Side.TheVariants.{Text}
use Rattle.xs_chars.specs.declared.form.Form.{Form}
use Rattle.xs_chars.specs.declared.form.Form.TheVariants.{AsIs}
use Rattle.xs_gram.specs.Common.{Common}
use Rattle.xs_gram.specs.Languages.{InLang}
use Rattle.xs_check_laws.specs.Acceptance.{IsAccepted}
use Rattle.xs_leiden.specs.Made.{made_text}
use Rattle.xs_words.specs.Command.{Sheet as Named}
use Rattle.xs_pair.specs.Grammars.{Pair, grammar_of}
use Rattle.xs_talk.specs.Lines.{line}
use Rattle.xs_talk.specs.declared.outcome.Outcome.{Outcome}
use Rattle.xs_talk.specs.declared.outcome.Outcome.TheVariants.{Done, Foreign, SheetLong, SheetBad, SheetIll, Heavy, Suspect, NotUtf8, NotXml, Usage, SheetFault, ReadFault, WriteFault, NoteFault, DocLong, ScriptBad, OutlineBad, CertFault, CertLong, CertBad}
use Rattle.xs_top.specs.declared.asking.Begun.{Begun}
use Rattle.xs_top.specs.declared.asking.Begun.TheVariants as B
use Rattle.xs_top.specs.declared.asking.Job.{Job}
use Rattle.xs_top.specs.declared.asking.Job.TheVariants.{Check, Turn, Trees, Make, Session, ToTree, FromTree, Cover, Prove}
use Rattle.xs_top.specs.Asked.{Ask, printing, upgrading, certifying, by, asked, searches, Reading, of_nothing, of_made, of_document, of_script, of_outline, read_for}
use Rattle.xs_top.specs.Devices.{Shelves, Input, Output, Run, ReadNothing, TookNothing}
use Rattle.xs_top.specs.Known.{HasBytes}
use Rattle.xs_top.specs.Sheets.{AreBytesOf, IsFailed, IsPairOfBytes, SpellsPair, SpellsUpgrade, IsUnpaired}
use Rattle.xs_top.specs.Checks.{IsSure, IsUnsure}
use Rattle.xs_talk.specs.Counts.{accepted_line}
use Rattle.xs_top.specs.Documents.{IsWordOf}
use Rattle.xs_top.specs.Answers.{IsTurnedInto, IsMade, IsListingOf, IsOutlined, IsOutlineDocument, IsMadeOfOutline, IsUnread, IsNoOutline}
use Rattle.xs_top.specs.Scripts.{IsScript, IsScriptPlayed, IsNoScript}
use Rattle.xs_top.specs.Covering.{IsCovered}
use Rattle.xs_io.specs.Shown.{Files, NameFailed}
use Rattle.xs_cert_laws.specs.Certificates.{IsCertificate}
use Rattle.xs_cert_laws.specs.Exact.{IsProof}
use Rattle.xs_cert_laws.specs.Alike.{AreBuilt}
use Rattle.xs_top.specs.Certifying.{IsCertified, IsUncertified, HasFile}

-- the input was read to its end, and is these bytes
abbrev pub Takes : Input → List ℕ → Type 0
Takes i bytes = Drains i.left_before i.left_now bytes 1048576

-- What a job answers. A sheet is checked before a document is turned by it, and before the input is read; its productions
-- are shown also where it is not accepted.
abbrev pub IsAnswer : Pair → Input → Job → List ℕ → Type 0
IsAnswer p i Check answer = ReadNothing i × IsSure p × (answer ≡ accepted_line p)
IsAnswer p i (Turn from to form) answer = IsSure p × (bytes : List ℕ) × (tree : Common) × Takes i bytes × IsTurnedInto p from to form bytes tree answer
IsAnswer p i (Trees max) answer = (bytes : List ℕ) × Takes i bytes × IsListingOf p max bytes answer
IsAnswer p i (Make seed lines) answer = ReadNothing i × IsSure p × IsMade p seed lines answer
IsAnswer p i Session answer = IsSure p × (bytes : List ℕ) × Takes i bytes × IsScriptPlayed p bytes answer
IsAnswer p i (ToTree from form) answer = IsSure p × (bytes : List ℕ) × Takes i bytes × IsOutlined p from form bytes answer
IsAnswer p i (FromTree to) answer = IsSure p × (bytes : List ℕ) × Takes i bytes × IsMadeOfOutline p to bytes answer
IsAnswer p i Cover answer = ReadNothing i × IsCovered p answer
IsAnswer p i Prove answer = ReadNothing i × IsSure p × AreBuilt p × IsProof p answer

-- why the input cannot be had
abbrev pub IsUntaken : Input → Outcome → Type 0
IsUntaken i ReadFault = Rose i.faults_before i.faults_now
IsUntaken i DocLong = Exceeds i.left_before i.left_now 1048576
IsUntaken i other = ⊥

-- Why what a job is done with is not answered: it cannot be had, or was read to its end and is no document of the
-- language, no script, or no outline.
abbrev pub IsUnanswered : Pair → Input → Reading → Outcome → Type 0
IsUnanswered p i of_nothing o = ⊥
IsUnanswered p i (of_made seed lines) o = ReadNothing i × IsUnread p Text AsIs (made_text seed lines) o
IsUnanswered p i (of_document side form) o = IsUntaken i o ⊎ ((bytes : List ℕ) × Takes i bytes × IsUnread p side form bytes o)
IsUnanswered p i of_script o = IsUntaken i o ⊎ ((bytes : List ℕ) × Takes i bytes × IsNoScript bytes o)
IsUnanswered p i of_outline o = IsUntaken i o ⊎ ((bytes : List ℕ) × Takes i bytes × IsNoOutline p bytes o)

-- why the check of a sheet is not passed, where there is one; nothing of the input was read
abbrev pub IsUnchecked : Bool → Pair → Input → Outcome → Type 0
IsUnchecked true p i o = ReadNothing i × IsUnsure p o
IsUnchecked false p i o = ⊥

-- the check is passed, where there is one
abbrev pub IsPassed : Bool → Pair → Type 0
IsPassed true p = IsSure p
IsPassed false p = Unit {0}

-- why a job is not done
abbrev pub IsUndone : Pair → Input → Job → Outcome → Type 0
IsUndone p i job o = IsUnchecked (searches job) p i o ⊎ (IsPassed (searches job) p × IsUnanswered p i (read_for job) o)

-- what comes of what is asked for by its sheet alone: the answer; or the two grammars of the sheet, and the job
abbrev pub IsBegun : Files → Ask → Begun → Type 0
IsBegun files (printing sheet) (B.Answer answer) = AreBytesOf files sheet answer
IsBegun files (upgrading sheet) (B.Answer answer) = SpellsUpgrade files sheet answer
IsBegun files (certifying sheet cert) (B.Answer answer) = IsCertified files sheet cert answer
IsBegun files (by sheet job) (B.By p other) = (other ≡ job) × SpellsPair files sheet p
IsBegun files ask begun = ⊥

-- what is answered to what is asked for
abbrev pub HasAnswer : Run → Ask → List ℕ → Type 0
HasAnswer run (by sheet job) answer = (p : Pair) × SpellsPair run.shelf.files sheet p × IsAnswer p run.input job answer
HasAnswer run ask answer = ReadNothing run.input × IsBegun run.shelf.files ask (B.Answer answer)

-- why it is refused by its sheet: that spells no grammars, or is not accepted by the certificate
abbrev pub IsRefused : Shelves → Ask → Outcome → Type 0
IsRefused shelf (printing sheet) o = ⊥
IsRefused shelf (upgrading sheet) o = IsUnpaired shelf sheet o
IsRefused shelf (certifying sheet cert) o = IsUncertified shelf sheet cert o
IsRefused shelf (by sheet job) o = IsUnpaired shelf sheet o

-- why it is not done by the two grammars of its sheet
abbrev pub IsUndoneBy : Run → Ask → Pair → Outcome → Type 0
IsUndoneBy run (by sheet job) p o = SpellsPair run.shelf.files sheet p × IsUndone p run.input job o
IsUndoneBy run ask p o = ⊥

-- what out took of an answer, by the outcome
abbrev pub Took : Output → List ℕ → Outcome → Type 0
Took out answer Done = Appends out.taken_before out.taken_now answer
Took out answer (WriteFault written) = Appends out.taken_before out.taken_now (take written answer) × (written < length answer) × Rose out.faults_before out.faults_now
Took out answer other = ⊥

-- The outcome to which a run went, with the names by which it is reported: the words are no command; or what they ask
-- for is refused by its sheet; or it is not done by the two grammars of that; or it is answered.
pub data Went (run : Run) : Outcome → List (List ℕ) → Type 0 where
  no_command : asked run.words ≡ None → ReadNothing run.input → TookNothing run.out → Went run Usage []
  refused : (ask : Ask) {o : Outcome} → asked run.words ≡ Some ask → IsRefused run.shelf ask o → ReadNothing run.input → TookNothing run.out → Went run o []
  undone : (ask : Ask) (p : Pair) {o : Outcome} → asked run.words ≡ Some ask → IsUndoneBy run ask p o → TookNothing run.out → Went run o p.names
  answered : (ask : Ask) (answer : List ℕ) {o : Outcome} → asked run.words ≡ Some ask → HasAnswer run ask answer → Took run.out answer o → Went run o []

-- the status that a program ends with
abbrev pub status_of : Outcome → ℕ
status_of Done = 0
status_of (Foreign viable) = 1
status_of SheetLong = 2
status_of (SheetBad at) = 2
status_of (SheetIll ill) = 2
status_of (Heavy weight) = 2
status_of (Suspect report) = 3
status_of (NotUtf8 at) = 4
status_of (NotXml at) = 4
status_of Usage = 5
status_of SheetFault = 6
status_of ReadFault = 6
status_of (WriteFault written) = 6
status_of (NoteFault of written) = 6
status_of DocLong = 7
status_of (ScriptBad line) = 10
status_of (OutlineBad line) = 11
status_of CertFault = 6
status_of CertLong = 7
status_of (CertBad line) = 9

-- notes failed at the line of an outcome, of which it took `written` bytes
pub record FailsAtNotes (notes : Output) (names : List (List ℕ)) (o : Outcome) (of written : ℕ) : Type 0 where
  pub status : of ≡ status_of o
  pub taken : Appends notes.taken_before notes.taken_now (take written (line names o))
  pub shorter : written < length (line names o)
  pub rose : Rose notes.faults_before notes.faults_now

-- notes took the line of the outcome, which is answered; or it failed
abbrev pub Tells : Output → List (List ℕ) → Outcome → Outcome → Type 0
Tells notes names o answer = ((answer ≡ o) × Appends notes.taken_before notes.taken_now (line names o)) ⊎ ((of : ℕ) × (written : ℕ) × (answer ≡ NoteFault of written) × FailsAtNotes notes names o of written)

-- an answer was written to its end, or out failed, which was reported
abbrev pub IsWritten : Output → Output → List ℕ → Outcome → Type 0
IsWritten out notes answer result = (o : Outcome) × Took out answer o × Tells notes [] o result

-- the run went to an outcome, which was reported
abbrev pub Told : Run → Outcome → Type 0
Told run answer = (o : Outcome) × (names : List (List ℕ)) × Went run o names × Tells run.notes names o answer

-- the bytes are UTF-8, and a document of the language of a side
pub record IsOfLanguage (p : Pair) (side : Side) (form : Form) (bytes : List ℕ) : Type 0 where
  pub utf8 : IsUtf8 bytes
  pub word : List ℕ
  pub word_is : IsWordOf side form p.names bytes word
  pub language : InLang (grammar_of p side) word

-- the input is known, within its limit, and a document of the language of a side, and did not fail
pub record IsReadable (p : Pair) (i : Input) (side : Side) (form : Form) : Type 0 where
  pub document : List ℕ
  pub input : i.left_before ≡ Some document
  pub limit : length document ≤ 1048576
  pub is : IsOfLanguage p side form document
  pub sure : Rose i.faults_before i.faults_now → ⊥

-- the input is known, within its limit, and an edit script, and did not fail
pub record IsReadableScript (i : Input) : Type 0 where
  pub document : List ℕ
  pub input : i.left_before ≡ Some document
  pub limit : length document ≤ 1048576
  pub is : IsScript document
  pub sure : Rose i.faults_before i.faults_now → ⊥

-- the input is known, within its limit, and an outline, and did not fail
pub record IsReadableOutline (p : Pair) (i : Input) : Type 0 where
  pub document : List ℕ
  pub input : i.left_before ≡ Some document
  pub limit : length document ≤ 1048576
  pub tree : Common
  pub is : IsOutlineDocument p document tree
  pub sure : Rose i.faults_before i.faults_now → ⊥

-- nothing stands against the sheet: it is accepted, where it is checked
abbrev pub IsFit : Bool → Pair → Type 0
IsFit true p = IsAccepted p.text p.xml
IsFit false p = Unit {0}

-- nor against what a job is done with
abbrev pub IsReady : Pair → Input → Reading → Type 0
IsReady p i of_nothing = Unit {0}
IsReady p i (of_made seed lines) = IsOfLanguage p Text AsIs (made_text seed lines)
IsReady p i (of_document side form) = IsReadable p i side form
IsReady p i of_script = IsReadableScript i
IsReady p i of_outline = IsReadableOutline p i

-- nothing stands against a job by these grammars
abbrev pub IsDoable : Pair → Input → Job → Type 0
IsDoable p i job = IsFit (searches job) p × IsReady p i (read_for job)

-- The sheet did not fail, and its bytes are known and spell two grammars.
pub record IsKnown (run : Run) (sheet : Named) : Type 0 where
  pub sheet_sure : IsFailed run.shelf sheet → ⊥
  pub bytes : List ℕ
  pub has : HasBytes run.shelf.files sheet bytes
  pub pair : Pair
  pub spelled : IsPairOfBytes bytes pair

-- The sheet is known, and nothing stands against the job by its grammars.
pub record IsClear (run : Run) (sheet : Named) (job : Job) : Type 0 where
  pub known : IsKnown run sheet
  pub doable : IsDoable known.pair run.input job

-- The sheet is known and accepted, and the file of this name, which did not fail, is known to be a certificate of its
-- two grammars.
pub record IsCertifiable (run : Run) (sheet : Named) (cert : List ℕ) : Type 0 where
  pub known : IsKnown run sheet
  pub accepted : IsAccepted known.pair.text known.pair.xml
  pub cert_sure : NameFailed run.shelf.files cert run.shelf.faults_before run.shelf.faults_now (run.shelf.name_before cert) (run.shelf.name_now cert) → ⊥
  pub certificate : List ℕ
  pub has : HasFile run.shelf.files cert certificate
  pub built : AreBuilt known.pair
  pub shows : IsCertificate known.pair certificate

-- nothing stands against what is asked for; never against a shipped sheet
abbrev pub IsFree : Run → Ask → Type 0
IsFree run (printing sheet) = Unit {0}
IsFree run (upgrading sheet) = IsKnown run sheet
IsFree run (certifying sheet cert) = IsCertifiable run sheet cert
IsFree run (by sheet job) = IsClear run sheet job

-- The words ask for something; nothing stands against it; and no count of out and notes rose.
pub record IsHonest (run : Run) : Type 0 where
  pub ask : Ask
  pub is : asked run.words ≡ Some ask
  pub free : IsFree run ask
  pub out_sure : Rose run.out.faults_before run.out.faults_now → ⊥
  pub notes_sure : Rose run.notes.faults_before run.notes.faults_now → ⊥

-- nothing but want of memory stands against it
abbrev pub IsComplete : Run → Outcome → Type 0
IsComplete run o = IsHonest run → o ≡ Done

-- no more of the input was taken than the longest document and one byte
abbrev pub TakesFew : Input → Type 0
TakesFew i = TakesAtMost i.left_before i.left_now 1048577

-- What a job reads of the input, however the run ends. What it reads may be cut short by a fault or for want of memory.
abbrev pub ReadsAs : Reading → Input → Type 0
ReadsAs of_nothing i = ReadNothing i
ReadsAs (of_made seed lines) i = ReadNothing i
ReadsAs reading i = TakesFew i

abbrev pub ReadsFor : Job → Input → Type 0
ReadsFor job i = ReadsAs (read_for job) i

-- what is read of the input for what is asked for: nothing but for a job
abbrev pub ReadsAsAsked : Option Ask → Input → Type 0
ReadsAsAsked (Some (by sheet job)) i = ReadsFor job i
ReadsAsAsked other i = ReadNothing i

-- what a run of these words reads of the input, however it ends
abbrev pub Reads : List (List ℕ) → Input → Type 0
Reads words i = ReadsAsAsked (asked words) i
