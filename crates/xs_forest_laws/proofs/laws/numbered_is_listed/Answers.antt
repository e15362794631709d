use Rattle.xs_forest_laws.proofs.Listing.{listed}
use Rattle.xs_forest_laws.proofs.laws.numbered_is_listed.Goals as goal

pub returns : goal.returns
returns c = listed
