use Rattle.xs_cover.proofs.Reached.{unreached_is_not_shown_lem}
use Rattle.xs_cover.proofs.laws.unreached_is_not_shown.Goals as goal

pub returns : goal.returns
returns c = unreached_is_not_shown_lem
