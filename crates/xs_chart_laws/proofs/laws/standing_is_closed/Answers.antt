use Rattle.xs_chart_laws.proofs.Standing.{standing_is_closed as standing}
use Rattle.xs_chart_laws.proofs.laws.standing_is_closed.Goals as goal

pub returns : goal.returns
returns c = λ g w built. standing g w built
