use Rattle.xs_chart_laws.specs.Charts.{HasPlace}
use Rattle.xs_forest_laws.proofs.Placed.{whole_there, left_there, right_there}
use Rattle.xs_forest_laws.proofs.Whole.{exact_chart}
use Rattle.xs_forest_laws.proofs.laws.children_come_first.Goals as goal

pub returns : goal.returns
returns c = λ g w sets chart rank tail ranked is_tail ks ordered f made more x i j next. record {
  whole = λ n q e of h. whole_there g w (HasPlace g sets) (exact_chart g w sets chart) rank tail ranked is_tail ks ordered f made more x i j next n q e of h;
  left = λ p d m item e at h over. left_there g w (HasPlace g sets) (exact_chart g w sets chart) rank tail ranked is_tail ks ordered f made more x i j next p d m item e at h over;
  right = λ p d m item e at h over. right_there g w (HasPlace g sets) (exact_chart g w sets chart) rank tail ranked is_tail ks ordered f made more x i j next p d m item e at h over;
}
