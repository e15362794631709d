use Rattle.xs_lex.proofs.Truth.{char_test}
use Rattle.xs_lex.proofs.classes.in_name.Goals as goal

pub returns : goal.returns
returns c = char_test c.is_name_char.result c.args.c c.is_name_char.ensures
