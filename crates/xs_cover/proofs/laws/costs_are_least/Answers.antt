use Rattle.xs_cover.proofs.Least.{costs_are_least_lem}
use Rattle.xs_cover.proofs.laws.costs_are_least.Goals as goal

pub returns : goal.returns
returns c = costs_are_least_lem
