use Rattle.xs_chart_laws.specs.Charts.{HasPlace}
use Rattle.xs_chart_laws.proofs.Recognising.{closed_by}
use Rattle.xs_chart_laws.proofs.laws.recogniser_closes.Goals as goal

pub returns : goal.returns
returns c = λ g w sets all by. closed_by g w (HasPlace g sets) all by
