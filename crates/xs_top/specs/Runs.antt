-- What a run asks for and reads, where its devices tell it, and what it turned.
use Rattle.std.specs.Prelude.{◌≡◌, ◌⊎◌, ℕ, ◌≤◌, List, [], ◌++◌, length, Some}
use Rattle.std.specs.Io.KnownBytes.{Appends}
use Rattle.xs_io.specs.Causes.{Rose}
use Rattle.xs_class.specs.declared.side.Side.{Side}
use Rattle.xs_chars.specs.declared.form.Form.{Form}
use Rattle.xs_words.specs.Command.{Sheet as Named}
use Rattle.xs_gram.specs.Derivations.{Parts, done, fixed, leaf, skip, sub, Derivation, yield, normal}
use Rattle.xs_gram.specs.Languages.{Derives}
use Rattle.xs_pair.specs.Grammars.{Pair, grammar_of}
use Rattle.xs_pair.specs.declared.ill.Ill.{Ill}
use Rattle.xs_talk.specs.declared.outcome.Report.{Report}
use Rattle.xs_talk.specs.declared.outcome.Report.TheVariants as R
use Rattle.xs_talk.specs.declared.outcome.Outcome.{Outcome}
use Rattle.xs_talk.specs.declared.outcome.Outcome.TheVariants.{Done, WriteFault, NoteFault}
use Rattle.xs_top.specs.declared.asking.Job.{Job}
use Rattle.xs_top.specs.declared.asking.Job.TheVariants.{Check, Turn, Prove}
use Rattle.xs_top.specs.Asked.{upgrading, certifying, by, asked}
use Rattle.xs_top.specs.Devices.{Run}
use Rattle.xs_table_out.specs.Documents.{document_bytes}
use Rattle.xs_top.specs.Documents.{IsDocument}
use Rattle.xs_top.specs.Known.{HasBytes}
use Rattle.xs_top.specs.Sheets.{IsFailed, IsPairOfBytes}
use Rattle.xs_top.specs.Ran.{Told}

-- the words ask for the job by a sheet of these bytes
pub record AsksFor (run : Run) (job : Job) (sheet : List ℕ) : Type 0 where
  pub named : Named
  pub is : asked run.words ≡ Some (by named job)
  pub has : HasBytes run.shelf.files named sheet

-- the words ask for the upgrade of a sheet of these bytes
pub record AsksToUpgrade (run : Run) (sheet : List ℕ) : Type 0 where
  pub named : Named
  pub is : asked run.words ≡ Some (upgrading named)
  pub has : HasBytes run.shelf.files named sheet

-- the words ask for the check of a sheet of these bytes by a certificate
pub record AsksToCertify (run : Run) (sheet : List ℕ) : Type 0 where
  pub named : Named
  pub cert : List ℕ
  pub is : asked run.words ≡ Some (certifying named cert)
  pub has : HasBytes run.shelf.files named sheet

-- The words ask whether a sheet of these bytes is accepted: for its check by the search, for a certificate of it, or for
-- its check by a certificate.
pub data AsksWhether (run : Run) (sheet : List ℕ) : Type 0 where
  checks : AsksFor run Check sheet → AsksWhether run sheet
  proves : AsksFor run Prove sheet → AsksWhether run sheet
  certifies : AsksToCertify run sheet → AsksWhether run sheet

-- the run is to turn this document from one side to the other by a sheet of these bytes
pub record IsToTurn (run : Run) (from to : Side) (form : Form) (sheet document : List ℕ) : Type 0 where
  pub asks : AsksFor run (Turn from to form) sheet
  pub input : run.input.left_before ≡ Some document

-- its document is read whole: it is within its limit, and neither the sheet nor the input failed
pub record IsReadWhole (run : Run) (named : Named) (document : List ℕ) : Type 0 where
  pub short : length document ≤ 1048576
  pub sheet : IsFailed run.shelf named → ⊥
  pub input : Rose run.input.faults_before run.input.faults_now → ⊥

-- the outcome says that out or notes failed, whose count rose
abbrev pub IsUnwritten : Run → Outcome → Type 0
IsUnwritten run (WriteFault written) = Rose run.out.faults_before run.out.faults_now
IsUnwritten run (NoteFault of written) = Rose run.notes.faults_before run.notes.faults_now
IsUnwritten run o = ⊥

-- Where the document is read whole the outcome is `Done`, or out or notes failed; and out took such an answer where it is
-- `Done`.
pub record Answers (run : Run) (o : Outcome) (named : Named) (document : List ℕ) (P : List ℕ → Type 0) : Type 0 where
  pub ends : IsReadWhole run named document → (o ≡ Done) ⊎ IsUnwritten run o
  pub answer : o ≡ Done → (answer : List ℕ) × P answer × Appends run.out.taken_before run.out.taken_now answer

-- the run turned this document, and this is what out took
pub record Turned (run : Run) (from to : Side) (form : Form) (sheet document answer : List ℕ) : Type 0 where
  pub asks : AsksFor run (Turn from to form) sheet
  pub input : run.input.left_before ≡ Some document
  pub before : List ℕ
  pub taken_before : run.out.taken_before ≡ Some before
  pub taken_now : run.out.taken_now ≡ Some (before ++ answer)
  pub is_done : Told run Done

-- no part of a derivation is an ignorable
abbrev pub HaveNoIgnorable : Parts → Type 0
HaveNoIgnorable done = Unit {0}
HaveNoIgnorable (fixed u ps) = HaveNoIgnorable ps
HaveNoIgnorable (leaf u ps) = HaveNoIgnorable ps
HaveNoIgnorable (skip u ps) = ⊥
HaveNoIgnorable (sub q qs ps) = HaveNoIgnorable qs × HaveNoIgnorable ps

-- The document of a side has one derivation by the sheet, and the bytes are it with each ignorable in its normal
-- spelling; where it has no ignorable they are the document itself as it is written.
pub record IsNormalOf (sheet : List ℕ) (side : Side) (form : Form) (document bytes : List ℕ) : Type 0 where
  pub pair : Pair
  pub is_pair : IsPairOfBytes sheet pair
  pub word : List ℕ
  pub is_document : IsDocument side form pair.names document word
  pub derivation : Derivation
  pub derives : Derives (grammar_of pair side) word derivation
  pub only : (other : Derivation) → Derives (grammar_of pair side) word other → other ≡ derivation
  pub is_normal : bytes ≡ document_bytes side pair.names (yield (normal (grammar_of pair side) derivation))
  pub same : HaveNoIgnorable derivation.parts → bytes ≡ document_bytes side pair.names word

-- a report without the words of its suspect
abbrev pub wordless : Report → Report
wordless (R.Vertical side name line line2 word) = R.Vertical side name line line2 []
wordless (R.Horizontal side name line cut x a y) = R.Horizontal side name line cut [] [] []

-- What an outcome tells of the bytes of a sheet that is checked: the place at which they are broken; the first rule that
-- fails, and its line; the weight of the first heavy rule; the report of the first suspect, without its words; or that the
-- sheet is accepted.
pub data Verdict : Type 0 where
  bad : ℕ → Verdict
  ill : Ill → Verdict
  heavy : ℕ → Verdict
  suspect : Report → Verdict
  accepted : Verdict
