-- What a certificate shows.
use Rattle.std.specs.Prelude.{ℕ, List}
use Rattle.xs_pair.specs.Grammars.{Pair}
use Rattle.xs_gram.specs.Sound.{IsBuilt}
use Rattle.xs_check_laws.specs.Acceptance.{IsLight, IsAccepted}
use Rattle.xs_cert_laws.specs.Certificates.{IsCertificate}

-- two grammars whose rules are light and that have a certificate are accepted
abbrev pub CertifiedIsAccepted : Type 0
CertifiedIsAccepted =
    (p : Pair) → IsBuilt p.text → IsBuilt p.xml → IsLight p.text → IsLight p.xml
    → (bytes : List ℕ) → IsCertificate p bytes → IsAccepted p.text p.xml
