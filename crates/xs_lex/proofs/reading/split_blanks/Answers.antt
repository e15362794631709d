use Rattle.xs_lex.proofs.Reached.{blanks_cut}
use Rattle.xs_lex.proofs.reading.split_blanks.Goals as goal

pub returns-clause-apart : goal.returns-clause-apart
returns-clause-apart c = (blanks_cut c.args.text.now c.split_at.result.0.now c.split_at.result.1.now c.blanks.result c.blanks.ensures.value c.split_at.ensures.front c.split_at.ensures.back).1
