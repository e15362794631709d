use Rattle.xs_cert_laws.proofs.Alike.{same_certificates}
use Rattle.xs_cert_laws.proofs.alike_have_same_certificates.Goals as goal

pub returns : goal.returns
returns c = same_certificates
