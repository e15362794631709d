use Rattle.xs_chart_laws.specs.Charts.{HasPlace}
use Rattle.xs_chart_laws.proofs.Completeness.{complete}
use Rattle.xs_chart_laws.proofs.laws.closed_is_complete.Goals as goal

pub returns : goal.returns
returns c = λ g w sets built closed. complete g w (HasPlace g sets) closed built
