use Rattle.xs_forest_laws.proofs.Read.{unfolding_fits as fits}
use Rattle.xs_forest_laws.proofs.laws.unfolding_fits.Goals as goal

pub returns : goal.returns
returns c = λ g w f right r x i j u row un. fits g w f right u r x i j row un
