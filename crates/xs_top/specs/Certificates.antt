-- The laws of certificates: one certificate is of every two grammars that the bytes of a sheet spell, and what `prove`
-- wrote is taken.
use Rattle.std.specs.Prelude.{◌≡◌, ◌⊎◌, ℕ, List, ◌++◌, Some}
use Rattle.xs_io.specs.Shown.{NameFailed}
use Rattle.xs_pair.specs.Grammars.{Pair}
use Rattle.xs_cert_laws.specs.Alike.{AreBuilt, HaveSameCertificates}
use Rattle.xs_words.specs.Command.{Sheet as Named}
use Rattle.xs_talk.specs.declared.outcome.Outcome.{Outcome}
use Rattle.xs_talk.specs.declared.outcome.Outcome.TheVariants.{Done, CertBad}
use Rattle.xs_top.specs.declared.asking.Job.TheVariants.{Prove}
use Rattle.xs_top.specs.Devices.{Run}
use Rattle.xs_top.specs.Sheets.{IsPairOfBytes, IsFailed}
use Rattle.xs_top.specs.Certifying.{HasFile}
use Rattle.xs_top.specs.Ran.{Told}
use Rattle.xs_top.specs.Runs.{AsksFor, AsksToCertify, IsUnwritten}

-- two pairs of grammars of the same bytes that are built have the same certificates, bad lines and proofs
abbrev pub CertificatesAgree : Type 0
CertificatesAgree = (bytes : List ℕ) (p q : Pair) → IsPairOfBytes bytes p → IsPairOfBytes bytes q → AreBuilt p → AreBuilt q → HaveSameCertificates p q

-- the run proved a sheet of these bytes, and this is what out took
pub record Proved (run : Run) (sheet answer : List ℕ) : Type 0 where
  pub asks : AsksFor run Prove sheet
  pub before : List ℕ
  pub taken_before : run.out.taken_before ≡ Some before
  pub taken_now : run.out.taken_now ≡ Some (before ++ answer)
  pub is_done : Told run Done

-- the words ask for the check of a sheet of these bytes by a file of these bytes
pub record IsToCertify (run : Run) (sheet certificate : List ℕ) : Type 0 where
  pub asks : AsksToCertify run sheet
  pub file : HasFile run.shelf.files asks.cert certificate

-- neither the sheet nor the file of the certificate failed
pub record AreHad (run : Run) (named : Named) (cert : List ℕ) : Type 0 where
  pub sheet : IsFailed run.shelf named → ⊥
  pub certificate : NameFailed run.shelf.files cert run.shelf.faults_before run.shelf.faults_now (run.shelf.name_before cert) (run.shelf.name_now cert) → ⊥

-- the certificate is not refused; and where the files are had the outcome is `Done`, or out or notes failed
pub record TakesCertificate (run : Run) (o : Outcome) (named : Named) (cert : List ℕ) : Type 0 where
  pub good : (line : ℕ) → o ≡ CertBad line → ⊥
  pub ends : AreHad run named cert → (o ≡ Done) ⊎ IsUnwritten run o

-- what `prove` wrote of a sheet is taken as its certificate
abbrev pub ProofIsTaken : Type 0
ProofIsTaken =
    (one two : Run) (sheet certificate : List ℕ)
    → Proved one sheet certificate
    → (next : IsToCertify two sheet certificate)
    → (o : Outcome)
    → Told two o
    → TakesCertificate two o next.asks.named next.asks.cert

-- two checks of a sheet by the same certificate: where one is done the other does not refuse it, and both refuse it at
-- the same line
pub record AgreeOnCertificate (o q : Outcome) : Type 0 where
  pub done : (line : ℕ) → o ≡ Done → q ≡ CertBad line → ⊥
  pub bad : (line other : ℕ) → o ≡ CertBad line → q ≡ CertBad other → line ≡ other

abbrev pub OneCertificate : Type 0
OneCertificate =
    (one two : Run) (sheet certificate : List ℕ)
    → IsToCertify one sheet certificate
    → IsToCertify two sheet certificate
    → (o q : Outcome)
    → Told one o
    → Told two q
    → AgreeOnCertificate o q
