use Rattle.xs_chart_laws.specs.Charts.{HasPlace}
use Rattle.xs_forest_laws.proofs.Grows.{grown_is_right as right}
use Rattle.xs_forest_laws.proofs.Whole.{exact_chart}
use Rattle.xs_forest_laws.proofs.laws.grown_is_right.Goals as goal

pub returns : goal.returns
returns c = λ g w sets f chart grown. right g w (HasPlace g sets) (exact_chart g w sets chart) f grown
