use Rattle.xs_writing_laws.specs.Laws.{WordsCanBeWritten}
use Rattle.xs_writing_laws.proofs.Texts.{texts_lem}
use Rattle.xs_writing_laws.proofs.Documents.{documents_lem}
use Rattle.xs_writing_laws.proofs.Names.{names_lem}
use Rattle.xs_writing_laws.proofs.words_can_be_written.Goals as goal

written : WordsCanBeWritten
written bytes s p read well is = record { text = texts_lem s p well.strings is; xml = documents_lem s p well is; names = names_lem bytes s p read is }

pub returns : goal.returns
returns c = written
