use Rattle.std.proofs.Common.{string_bytes, arith}
use Rattle.xs_words.proofs.Words.{no_words, many_words}
use Rattle.xs_words.proofs.reading.command_of.Goals as goal

pub returns-in-empty-clause-command : goal.returns-in-empty-clause-command
returns-in-empty-clause-command c = no_words string_bytes c.args.words.now (omega arith)

pub returns-in-len5-up-clause-command : goal.returns-in-len5-up-clause-command
returns-in-len5-up-clause-command c = many_words string_bytes c.args.words.now (omega arith)
