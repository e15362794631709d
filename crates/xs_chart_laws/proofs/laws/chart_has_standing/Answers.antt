use Rattle.xs_chart_laws.proofs.Charts.{chart_is_standing}
use Rattle.xs_chart_laws.proofs.laws.chart_has_standing.Goals as goal

pub returns : goal.returns
returns c = chart_is_standing
