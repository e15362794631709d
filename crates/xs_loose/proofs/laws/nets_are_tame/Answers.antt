use Rattle.xs_loose.proofs.Taming.{nets_are_tame}
use Rattle.xs_loose.proofs.laws.nets_are_tame.Goals as goal

pub returns : goal.returns
returns c = nets_are_tame
