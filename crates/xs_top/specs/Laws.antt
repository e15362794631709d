-- The laws of a sheet, and of two runs or three by one sheet.
use Rattle.std.specs.Prelude.{◌≡◌, ◌⊎◌, ◌↔◌, ⊤, ℕ, true, List, None, Some}
use Rattle.std.specs.declared.option.Option.{Option}
use Rattle.xs_class.specs.declared.side.Side.{Side}
use Rattle.xs_chars.specs.declared.form.Form.{Form}
use Rattle.xs_chars.specs.declared.form.Form.TheVariants.{AsIs}
use Rattle.xs_gram.specs.Languages.{InLang, IsViable}
use Rattle.xs_check_laws.specs.Acceptance.{IsAccepted}
use Rattle.xs_sheet.specs.declared.sheet.Sheet.{Sheet}
use Rattle.xs_sheet.specs.Grammar.{IsSheetOf}
use Rattle.xs_sheet_laws.specs.Pairs as P
use Rattle.xs_pair.specs.Grammars.{Pair, grammar_of}
use Rattle.xs_gram.specs.Common.{Common}
use Rattle.xs_outline.specs.Outline.{IsOutline}
use Rattle.xs_script.specs.Playing.{IsPlayed}
use Rattle.xs_wf.specs.Rules.{IsWell}
use Rattle.xs_talk.specs.declared.outcome.Outcome.{Outcome}
use Rattle.xs_talk.specs.declared.outcome.Outcome.TheVariants.{Done, Foreign, SheetLong, SheetBad, SheetIll, Heavy, Suspect, NotUtf8, NotXml, Usage, SheetFault, ReadFault, WriteFault, NoteFault, DocLong, ScriptBad, OutlineBad, CertFault, CertLong, CertBad}
use Rattle.xs_top.specs.declared.asking.Job.{Job}
use Rattle.xs_top.specs.Asked.{searches}
use Rattle.xs_top.specs.Devices.{Run}
use Rattle.xs_top.specs.Documents.{IsDocument}
use Rattle.xs_top.specs.Sheets.{IsPairOfBytes}
use Rattle.xs_top.specs.Checks.{IsSure}
use Rattle.xs_top.specs.Ran.{Told}
use Rattle.xs_top.specs.Runs.{AsksFor, AsksToUpgrade, AsksToCertify, AsksWhether, IsToTurn, IsReadWhole, IsUnwritten, Answers, Turned, IsNormalOf, wordless, Verdict, bad, ill, heavy, suspect, accepted}

-- two pairs of grammars of the same bytes mean the same
abbrev pub PairsAgree : Type 0
PairsAgree = (bytes : List ℕ) (p q : Pair) → IsPairOfBytes bytes p → IsPairOfBytes bytes q → P.MeanTheSame p q

-- where bytes spell a well-formed sheet, each sheet that they spell is well formed
abbrev pub SheetsAgree : Type 0
SheetsAgree = (bytes : List ℕ) (s t : Sheet) → IsSheetOf bytes s → IsSheetOf bytes t → IsWell s → IsWell t

-- by two pairs of grammars of the same bytes, an outline is of the same tree
abbrev pub OutlinesAgree : Type 0
OutlinesAgree = (bytes : List ℕ) (p q : Pair) → IsPairOfBytes bytes p → IsPairOfBytes bytes q → (w : List ℕ) (tree : Common) → IsOutline p w tree → IsOutline q w tree

-- by two pairs of grammars of the same bytes, a script is answered the same
abbrev pub ScriptsAgree : Type 0
ScriptsAgree = (bytes : List ℕ) (p q : Pair) → IsPairOfBytes bytes p → IsPairOfBytes bytes q → (script answer : List ℕ) → IsPlayed p script answer → IsPlayed q script answer

-- What a run wrote is turned back by the same sheet where it is read whole, unless out or notes fail or memory is wanting;
-- and then out took the first document with each ignorable in its normal spelling.
abbrev pub TranslatesBack : Type 0
TranslatesBack =
    (one two : Run) (from to : Side) (form : Form) (sheet document answer : List ℕ)
    → Turned one from to form sheet document answer
    → (next : IsToTurn two to from AsIs sheet answer)
    → (o : Outcome)
    → Told two o
    → Answers two o next.asks.named answer (IsNormalOf sheet from form document)

-- two runs that turn the same document by the same sheet write the same
abbrev pub OneAnswer : Type 0
OneAnswer =
    (one two : Run) (from to : Side) (form : Form) (sheet document answer other : List ℕ)
    → Turned one from to form sheet document answer
    → Turned two from to form sheet document other
    → other ≡ answer

-- what `round` wrote is written again by `round`
abbrev pub RoundIsIdempotent : Type 0
RoundIsIdempotent =
    (one two : Run) (side : Side) (form : Form) (sheet document answer : List ℕ)
    → Turned one side side form sheet document answer
    → (next : IsToTurn two side side AsIs sheet answer)
    → (o : Outcome)
    → Told two o
    → Answers two o next.asks.named answer (λ again. again ≡ answer)

-- a document that was turned, and turned back, is turned into the same document as before
abbrev pub TranslatesAgain : Type 0
TranslatesAgain =
    (one two three : Run) (from to : Side) (form : Form) (sheet document answer back : List ℕ)
    → Turned one from to form sheet document answer
    → Turned two to from AsIs sheet answer back
    → (next : IsToTurn three from to AsIs sheet back)
    → (o : Outcome)
    → Told three o
    → Answers three o next.asks.named back (λ again. again ≡ answer)

-- a document of an accepted sheet is turned exactly where it is of the language, and else refused with its longest viable prefix
pub record IsDecided (p : Pair) (side : Side) (word : List ℕ) (o : Outcome) : Type 0 where
  pub turned : (o ≡ Done) ↔ InLang (grammar_of p side) word
  pub refused : ((viable : ℕ) × (o ≡ Foreign viable) × IsViable (grammar_of p side) word viable) ↔ (InLang (grammar_of p side) word → ⊥)

abbrev pub RefusesExactly : Type 0
RefusesExactly =
    (run : Run) (from to : Side) (form : Form) (sheet document word : List ℕ) (p : Pair)
    → IsPairOfBytes sheet p
    → IsAccepted p.text p.xml
    → (job : IsToTurn run from to form sheet document)
    → IsReadWhole run job.asks.named document
    → IsDocument from form p.names document word
    → (o : Outcome)
    → Told run o
    → IsDecided p from word o ⊎ IsUnwritten run o

-- a job for which the sheet is checked
abbrev pub IsChecked : Job → Type 0
IsChecked job = searches job ≡ true

-- What an outcome tells of the sheet's bytes: none where they could not be had, or nothing was done with them; and none
-- where a certificate could not be had or is none of the sheet (CertFault, CertLong, CertBad), which leaves open whether
-- the sheet is accepted.
abbrev pub verdict : Outcome → Option Verdict
verdict (SheetBad at) = Some (bad at)
verdict (SheetIll which) = Some (ill which)
verdict (Heavy weight) = Some (heavy weight)
verdict (Suspect report) = Some (suspect (wordless report))
verdict Done = Some accepted
verdict (Foreign viable) = Some accepted
verdict (NotUtf8 at) = Some accepted
verdict (NotXml at) = Some accepted
verdict DocLong = Some accepted
verdict (ScriptBad line) = Some accepted
verdict (OutlineBad line) = Some accepted
verdict ReadFault = Some accepted
verdict (WriteFault written) = Some accepted
verdict SheetLong = None
verdict Usage = None
verdict SheetFault = None
verdict (NoteFault of written) = None
verdict CertFault = None
verdict CertLong = None
verdict (CertBad line) = None

-- the run is to check a sheet of these bytes: for a job, or by a certificate
pub data ChecksSheet (run : Run) (sheet : List ℕ) : Type 0 where
  for_job : (job : Job) → AsksFor run job sheet → IsChecked job → ChecksSheet run sheet
  by_certificate : AsksToCertify run sheet → ChecksSheet run sheet

-- two runs that check the same sheet tell the same of it, but for the words of a suspect
abbrev pub OneVerdict : Type 0
OneVerdict =
    (one two : Run) (sheet : List ℕ)
    → ChecksSheet one sheet
    → ChecksSheet two sheet
    → (o q : Outcome)
    → Told one o
    → Told two q
    → (v w : Verdict)
    → verdict o ≡ Some v
    → verdict q ≡ Some w
    → v ≡ w

-- the bytes of a sheet are none, or those of one that is ill
abbrev pub IsFlaw : Verdict → Type 0
IsFlaw (bad at) = ⊤
IsFlaw (ill which) = ⊤
IsFlaw (heavy weight) = ⊥
IsFlaw (suspect report) = ⊥
IsFlaw accepted = ⊥

-- the run is by a sheet of these bytes: for a job, for its upgrade, or for its check by a certificate
pub data IsBySheet (run : Run) (sheet : List ℕ) : Type 0 where
  does : (job : Job) → AsksFor run job sheet → IsBySheet run sheet
  upgrades : AsksToUpgrade run sheet → IsBySheet run sheet
  certifies : AsksToCertify run sheet → IsBySheet run sheet

-- Where a run tells that a sheet is none, or ill, each run by the same sheet that tells anything of it tells the same,
-- whether it checks the sheet or not.
abbrev pub OneFlaw : Type 0
OneFlaw =
    (one two : Run) (sheet : List ℕ)
    → IsBySheet one sheet
    → IsBySheet two sheet
    → (o q : Outcome)
    → Told one o
    → Told two q
    → (v w : Verdict)
    → IsFlaw v
    → verdict o ≡ Some v
    → verdict q ≡ Some w
    → v ≡ w

-- an outcome that refuses the sheet
abbrev pub RefusesSheet : Outcome → Type 0
RefusesSheet (SheetBad at) = ⊤
RefusesSheet (SheetIll which) = ⊤
RefusesSheet (Heavy weight) = ⊤
RefusesSheet (Suspect report) = ⊤
RefusesSheet SheetLong = ⊤
RefusesSheet o = ⊥

-- once a check, with a certificate or without, or `prove` was done, no run by the same sheet refuses it
abbrev pub CheckDecides : Type 0
CheckDecides =
    (one two : Run) (job : Job) (sheet : List ℕ)
    → AsksWhether one sheet
    → AsksFor two job sheet
    → Told one Done
    → (o : Outcome)
    → Told two o
    → RefusesSheet o
    → ⊥

-- nor does a run that upgrades the same sheet
abbrev pub CheckDecidesUpgrades : Type 0
CheckDecidesUpgrades =
    (one two : Run) (sheet : List ℕ)
    → AsksWhether one sheet
    → AsksToUpgrade two sheet
    → Told one Done
    → (o : Outcome)
    → Told two o
    → RefusesSheet o
    → ⊥

-- nor does one that checks it by a certificate
abbrev pub CheckDecidesCertificates : Type 0
CheckDecidesCertificates =
    (one two : Run) (sheet : List ℕ)
    → AsksWhether one sheet
    → AsksToCertify two sheet
    → Told one Done
    → (o : Outcome)
    → Told two o
    → RefusesSheet o
    → ⊥

-- the bytes spell two grammars, and any two that they spell are accepted
pub record AreAccepted (sheet : List ℕ) : Type 0 where
  pub pair : Pair
  pub is_pair : IsPairOfBytes sheet pair
  pub sure : (p : Pair) → IsPairOfBytes sheet p → IsSure p

-- which holds once a check, with a certificate or without, or `prove` was done
abbrev pub CheckAccepts : Type 0
CheckAccepts = (run : Run) (sheet : List ℕ) → AsksWhether run sheet → Told run Done → AreAccepted sheet
