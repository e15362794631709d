use Rattle.xs_loose.proofs.Reading.{nets_accept_loose}
use Rattle.xs_loose.proofs.laws.nets_accept_loose.Goals as goal

pub returns : goal.returns
returns c = nets_accept_loose
