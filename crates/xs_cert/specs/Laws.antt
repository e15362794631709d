-- What is proved passes the test.
use Rattle.std.specs.Prelude.{◌≡◌, ℕ, List}
use Rattle.xs_gram.specs.Sound.{IsBuilt}
use Rattle.xs_check_laws.specs.Acceptance.{IsAccepted}
use Rattle.xs_pair.specs.Grammars.{Pair}
use Rattle.xs_cert_laws.specs.Exact.{IsProof}
use Rattle.xs_cert.specs.Reasons.{IsCertReason}
use Rattle.xs_cert.specs.declared.fault.CertFault.{CertFault}
use Rattle.xs_cert.specs.declared.fault.CertFault.TheVariants as F

-- what is written of two grammars that are accepted is refused for want of memory alone
abbrev pub ProofPasses : Type 0
ProofPasses =
    (p : Pair) → IsBuilt p.text → IsBuilt p.xml → IsAccepted p.text p.xml
    → (bytes : List ℕ) → IsProof p bytes → (fault : CertFault) → IsCertReason p bytes fault → fault ≡ F.Memory
