use Rattle.xs_cover.proofs.Sizes.{sizes_add_lem}
use Rattle.xs_cover.proofs.laws.sizes_add.Goals as goal

pub returns : goal.returns
returns c = sizes_add_lem
