use Rattle.xs_turn.proofs.Fitting.{stripped_fits_lem}
use Rattle.xs_turn.proofs.laws.stripped_fits.Goals as goal

pub returns : goal.returns
returns c = stripped_fits_lem
