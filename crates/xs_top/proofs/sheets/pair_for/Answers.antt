use Rattle.xs_top.proofs.Going.{answered_as}
use Rattle.xs_top.proofs.Writable.{can_be_written}
use Rattle.xs_top.proofs.sheets.pair_for.Goals as goal

pub returns-clause-writable : goal.returns-clause-writable
returns-clause-writable g c = answered_as (λ p is. can_be_written c.words_can_be_written.ensures c.as_slice.result.now p is) c.pair_of.result c.pair_of.ensures.pair
