-- A certificate of grammars whose rules are light is not refused.
use Rattle.std.proofs.Common.{refl, inl, inr}
use Rattle.xs_searches.proofs.Lightness.{not_heavy}
use Rattle.xs_cert.specs.Laws.{ProofPasses}
use Rattle.xs_cert.specs.declared.fault.CertFault.TheVariants as F

pub passes : ProofPasses
passes p text xml accepted bytes proof (F.Heavy weight) (inl h) = absurd (not_heavy p.text text weight accepted.light_text h)
passes p text xml accepted bytes proof (F.Heavy weight) (inr h) = absurd (not_heavy p.xml xml weight accepted.light_xml h.1)
passes p text xml accepted bytes proof (F.CertBad line) reason = absurd (reason.2.none proof.is)
passes p text xml accepted bytes proof F.Memory reason = refl
