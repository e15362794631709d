use Rattle.xs_top.proofs.Exactly.{refuses_exactly_lem}
use Rattle.xs_top.proofs.laws.refuses_exactly.Goals as goal

pub returns : goal.returns
returns c = refuses_exactly_lem c.one_word.ensures c.weights_are_exact.ensures.rule c.bytes_agree.ensures.pairs c.bytes_agree.ensures.sheets
