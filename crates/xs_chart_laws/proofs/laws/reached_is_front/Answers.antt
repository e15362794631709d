use Rattle.xs_chart_laws.proofs.Charts.{chart_front}
use Rattle.xs_chart_laws.proofs.laws.reached_is_front.Goals as goal

pub returns : goal.returns
returns c = chart_front
