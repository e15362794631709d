use Rattle.xs_chart_laws.proofs.Charts.{closed_is_chart as closed_chart}
use Rattle.xs_chart_laws.proofs.laws.closed_is_chart.Goals as goal

pub returns : goal.returns
returns c = closed_chart
