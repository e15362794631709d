use Rattle.xs_cover.proofs.Costs.{closed_costs_are_low_lem}
use Rattle.xs_cover.proofs.laws.closed_costs_are_low.Goals as goal

pub returns : goal.returns
returns c = closed_costs_are_low_lem
