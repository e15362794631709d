use Rattle.xs_cert_laws.proofs.Showing.{certified}
use Rattle.xs_cert_laws.proofs.certified_is_accepted.Goals as goal

pub returns : goal.returns
returns c = certified
