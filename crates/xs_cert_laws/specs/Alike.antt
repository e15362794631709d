-- Pairs of grammars that are alike have the same certificates.
use Rattle.std.specs.Prelude.{◌↔◌, ℕ, List}
use Rattle.xs_gram.specs.Sound.{IsBuilt}
use Rattle.xs_pair.specs.Grammars.{Pair}
use Rattle.xs_sheet_laws.specs.Pairs as P
use Rattle.xs_cert_laws.specs.Certificates.{IsCertificate, IsBadAt}
use Rattle.xs_cert_laws.specs.Exact.{IsProof}

-- both grammars are built: their automata are those of their regexes
pub record AreBuilt (p : Pair) : Type 0 where
  pub text : IsBuilt p.text
  pub xml : IsBuilt p.xml

-- the same certificates, the same first bad line of what is none, and the same proofs
pub record HaveSameCertificates (p q : Pair) : Type 0 where
  pub certificate : (bytes : List ℕ) → IsCertificate p bytes ↔ IsCertificate q bytes
  pub bad : (bytes : List ℕ) (line : ℕ) → IsBadAt p bytes line ↔ IsBadAt q bytes line
  pub proof : (bytes : List ℕ) → IsProof p bytes ↔ IsProof q bytes

-- pairs of grammars that are alike, and built, have the same certificates
abbrev pub AlikeHaveSameCertificates : Type 0
AlikeHaveSameCertificates = (p q : Pair) → P.AreAlike p q → AreBuilt p → AreBuilt q → HaveSameCertificates p q
