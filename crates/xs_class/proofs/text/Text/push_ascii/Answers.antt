use Rattle.xs_class.proofs.Chars.{ascii_chars}
use Rattle.xs_class.proofs.text.Text.push_ascii.Goals as goal

pub returns-clause-ok : goal.returns-clause-ok
returns-clause-ok c = rw (← ascii_chars c.args.word.now c.requires) c.push_str.ensures.ok
