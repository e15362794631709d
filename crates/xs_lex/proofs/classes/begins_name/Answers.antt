use Rattle.xs_lex.proofs.Truth.{start_test}
use Rattle.xs_lex.proofs.classes.begins_name.Goals as goal

pub returns : goal.returns
returns c = start_test c.is_name_start.result c.args.c c.is_name_start.ensures
