use Rattle.xs_c.proofs.Texts.{no_names_if}
use Rattle.xs_c.proofs.answer.no_names.Goals as goal

pub returns : goal.returns
returns c = no_names_if c.of.result c.of.ensures
