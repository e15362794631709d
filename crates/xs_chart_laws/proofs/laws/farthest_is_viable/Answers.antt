use Rattle.xs_chart_laws.proofs.Charts.{chart_viable}
use Rattle.xs_chart_laws.proofs.laws.farthest_is_viable.Goals as goal

pub returns : goal.returns
returns c = chart_viable
