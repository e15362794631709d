use Rattle.xs_chars.proofs.Characters.{read_back}
use Rattle.xs_chars.proofs.laws.text_is_read_back.Goals as goal

pub returns : goal.returns
returns c = read_back
