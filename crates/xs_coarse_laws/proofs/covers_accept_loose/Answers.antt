use Rattle.xs_coarse_laws.proofs.Spelling.{covers_accept_loose}
use Rattle.xs_coarse_laws.proofs.covers_accept_loose.Goals as goal

pub returns : goal.returns
returns c = covers_accept_loose
