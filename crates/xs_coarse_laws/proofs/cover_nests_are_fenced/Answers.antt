use Rattle.xs_coarse_laws.proofs.Taming.{cover_nests_are_fenced}
use Rattle.xs_coarse_laws.proofs.cover_nests_are_fenced.Goals as goal

pub returns : goal.returns
returns c = cover_nests_are_fenced
