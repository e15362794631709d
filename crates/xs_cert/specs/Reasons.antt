-- Why bytes do not certify two grammars.
use Rattle.std.specs.Prelude.{ℕ, List}
use Rattle.xs_pair.specs.Grammars.{Pair}
use Rattle.xs_check_laws.specs.Acceptance.{IsLight, IsFirstHeavy}
use Rattle.xs_searches.specs.declared.fault.CheckFault.{CheckFault}
use Rattle.xs_searches.specs.declared.fault.CheckFault.TheVariants as C
use Rattle.xs_cert_laws.specs.Certificates.{IsBadAt}
use Rattle.xs_cert.specs.declared.fault.CertFault.{CertFault}
use Rattle.xs_cert.specs.declared.fault.CertFault.TheVariants as F

-- where the fault speaks of a weight, it is that of the first heavy rule of the two grammars
abbrev pub IsWeighty : Pair → CheckFault → Type 0
IsWeighty p (C.Heavy weight) = IsFirstHeavy p.text p.xml weight
IsWeighty p C.Memory = Unit {0}

-- and where it speaks of a line, no rule is heavy, and it is the line after the longest good front of
-- bytes that are no certificate
abbrev pub IsCertReason : Pair → List ℕ → CertFault → Type 0
IsCertReason p bytes (F.Heavy weight) = IsFirstHeavy p.text p.xml weight
IsCertReason p bytes (F.CertBad line) = IsLight p.text × IsLight p.xml × IsBadAt p bytes line
IsCertReason p bytes F.Memory = Unit {0}

-- the same fault of a certificate
abbrev pub fault_of : CheckFault → CertFault
fault_of (C.Heavy weight) = F.Heavy weight
fault_of C.Memory = F.Memory
