use Rattle.xs_top.proofs.Back.{one_answer_lem}
use Rattle.xs_top.proofs.laws.one_answer.Goals as goal

pub returns : goal.returns
returns c = one_answer_lem c.one_word.ensures c.bytes_agree.ensures.pairs
