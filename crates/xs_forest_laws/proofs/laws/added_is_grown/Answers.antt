use Rattle.xs_chart_laws.specs.Charts.{HasPlace}
use Rattle.xs_forest_laws.proofs.Adding.{added, none_grown}
use Rattle.xs_forest_laws.proofs.laws.added_is_grown.Goals as goal

pub returns : goal.returns
returns c = λ g w sets. (none_grown g w (HasPlace g sets), λ f x i j alts grown next. added g w (HasPlace g sets) f x i j alts grown next)
