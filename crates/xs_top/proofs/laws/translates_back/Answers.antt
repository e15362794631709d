use Rattle.xs_top.proofs.Back.{translates_back_lem}
use Rattle.xs_top.proofs.laws.translates_back.Goals as goal

pub returns : goal.returns
returns c = translates_back_lem c.one_word.ensures c.bytes_agree.ensures.pairs c.weights_are_exact.ensures.rule c.bytes_agree.ensures.sheets
