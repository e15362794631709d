use Rattle.xs_top.proofs.Going.{none_if}
use Rattle.xs_top.proofs.notes.no_names.Goals as goal

pub returns : goal.returns
returns c = none_if c.of.result c.of.ensures
