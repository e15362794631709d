-- The check of a sheet by a certificate: what it gives, and why it is not passed.
use Rattle.std.specs.Prelude.{◌≡◌, ◌⊎◌, ℕ, ◌≤◌, List, length, None, Some}
use Rattle.xs_io.specs.Shown.{Files, IsFile, IsLongFile, NameFailed}
use Rattle.xs_check_laws.specs.Acceptance.{IsLight, IsFirstHeavy}
use Rattle.xs_cert_laws.specs.Certificates.{IsCertificate, IsBadAt}
use Rattle.xs_cert_laws.specs.Alike.{AreBuilt}
use Rattle.xs_words.specs.Command.{Sheet as Named}
use Rattle.xs_pair.specs.Grammars.{Pair}
use Rattle.xs_talk.specs.Counts.{accepted_line}
use Rattle.xs_talk.specs.declared.outcome.Outcome.{Outcome}
use Rattle.xs_talk.specs.declared.outcome.Outcome.TheVariants.{Heavy, CertFault, CertLong, CertBad}
use Rattle.xs_top.specs.Devices.{Shelves}
use Rattle.xs_top.specs.Sheets.{SpellsPair, IsUnpaired}
use Rattle.xs_top.specs.Checks.{IsSure}

-- the file of this name is a certificate of the two grammars
pub record HasCertificate (files : Files) (cert : List ℕ) (p : Pair) : Type 0 where
  pub bytes : List ℕ
  pub are : IsFile files cert bytes 268435456
  pub shows : IsCertificate p bytes

-- the sheet is accepted by the certificate in the file, and this is what is said of it
pub record IsCertified (files : Files) (sheet : Named) (cert answer : List ℕ) : Type 0 where
  pub pair : Pair
  pub spelled : SpellsPair files sheet pair
  pub built : AreBuilt pair
  pub certificate : HasCertificate files cert pair
  pub sure : IsSure pair
  pub is : answer ≡ accepted_line pair

-- no rule of either grammar is heavy
abbrev pub AreLight : Pair → Type 0
AreLight p = IsLight p.text × IsLight p.xml

-- why the bytes of the certificate's file cannot be had
abbrev pub IsUnshown : Shelves → List ℕ → Outcome → Type 0
IsUnshown shelf cert CertFault = NameFailed shelf.files cert shelf.faults_before shelf.faults_now (shelf.name_before cert) (shelf.name_now cert)
IsUnshown shelf cert CertLong = IsLongFile shelf.files cert 268435456
IsUnshown shelf cert other = ⊥

-- why the file does not certify the two grammars; it is read only where no rule is heavy
abbrev pub IsUncertain : Pair → Shelves → List ℕ → Outcome → Type 0
IsUncertain p shelf cert (Heavy weight) = IsFirstHeavy p.text p.xml weight
IsUncertain p shelf cert CertFault = AreLight p × NameFailed shelf.files cert shelf.faults_before shelf.faults_now (shelf.name_before cert) (shelf.name_now cert)
IsUncertain p shelf cert CertLong = AreLight p × IsLongFile shelf.files cert 268435456
IsUncertain p shelf cert (CertBad line) = AreLight p × AreBuilt p × (bytes : List ℕ) × IsFile shelf.files cert bytes 268435456 × IsBadAt p bytes line
IsUncertain p shelf cert other = ⊥

-- why the sheet is not accepted by the file
abbrev pub IsUncertified : Shelves → Named → List ℕ → Outcome → Type 0
IsUncertified shelf sheet cert o = IsUnpaired shelf sheet o ⊎ ((p : Pair) × SpellsPair shelf.files sheet p × IsUncertain p shelf cert o)

-- the shelf shows that the file has these bytes, at most 268,435,456
abbrev pub HasFile : Files → List ℕ → List ℕ → Type 0
HasFile None cert bytes = ⊥
HasFile (Some files) cert bytes = (files cert ≡ Some bytes) × (length bytes ≤ 268435456)
