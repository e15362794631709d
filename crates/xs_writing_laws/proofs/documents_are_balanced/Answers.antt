use Rattle.xs_writing_laws.proofs.Documents.{documents_lem}
use Rattle.xs_writing_laws.proofs.documents_are_balanced.Goals as goal

pub returns : goal.returns
returns c = documents_lem
