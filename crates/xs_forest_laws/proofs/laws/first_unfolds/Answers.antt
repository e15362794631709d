use Rattle.std.proofs.Common.{Some}
use Rattle.xs_forest_laws.proofs.First.{has_first, first_unfolds as unfolds}
use Rattle.xs_forest_laws.proofs.laws.first_unfolds.Goals as goal

pub returns : goal.returns
returns c = λ g w f right r u h. let v = has_first g w f right r u h in (v.0, v.1, unfolds f (Some r) v.0 v.1)
