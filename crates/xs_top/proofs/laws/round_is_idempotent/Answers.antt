use Rattle.xs_top.proofs.Back.{round_lem, translates_again_lem}
use Rattle.xs_top.proofs.laws.round_is_idempotent.Goals as goal

pub returns-clause-round : goal.returns-clause-round
returns-clause-round c = round_lem c.one_word.ensures c.bytes_agree.ensures.pairs c.weights_are_exact.ensures.rule c.bytes_agree.ensures.sheets

pub returns-clause-again : goal.returns-clause-again
returns-clause-again c = translates_again_lem c.one_word.ensures c.bytes_agree.ensures.pairs c.weights_are_exact.ensures.rule c.bytes_agree.ensures.sheets
