use Rattle.xs_writing_laws.proofs.Names.{names_lem}
use Rattle.xs_writing_laws.proofs.names_are_names.Goals as goal

pub returns : goal.returns
returns c = names_lem
