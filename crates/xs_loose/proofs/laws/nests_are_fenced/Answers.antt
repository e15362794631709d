use Rattle.xs_loose.proofs.Taming.{nests_are_fenced}
use Rattle.xs_loose.proofs.laws.nests_are_fenced.Goals as goal

pub returns : goal.returns
returns c = nests_are_fenced
