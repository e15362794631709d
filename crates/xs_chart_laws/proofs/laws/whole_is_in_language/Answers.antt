use Rattle.xs_chart_laws.proofs.Charts.{chart_language}
use Rattle.xs_chart_laws.proofs.laws.whole_is_in_language.Goals as goal

pub returns : goal.returns
returns c = chart_language
