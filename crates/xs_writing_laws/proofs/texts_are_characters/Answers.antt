use Rattle.xs_writing_laws.proofs.Texts.{texts_lem}
use Rattle.xs_writing_laws.proofs.texts_are_characters.Goals as goal

pub returns : goal.returns
returns c = texts_lem
