use Rattle.xs_cert.proofs.Passing.{passes}
use Rattle.xs_cert.proofs.laws.proof_passes.Goals as goal

pub returns : goal.returns
returns c = passes
