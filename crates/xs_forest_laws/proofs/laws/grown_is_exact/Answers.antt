use Rattle.xs_chart_laws.specs.Charts.{HasPlace}
use Rattle.xs_forest_laws.proofs.Whole.{exact_chart, grown_is_exact as whole_is_exact}
use Rattle.xs_forest_laws.proofs.laws.grown_is_exact.Goals as goal

pub returns : goal.returns
returns c = λ g w sets f place ks chart ordered made all grown in_lang. whole_is_exact g w (HasPlace g sets) f place ks (exact_chart g w sets chart) ordered made all grown in_lang
