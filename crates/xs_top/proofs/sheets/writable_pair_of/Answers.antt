use Rattle.xs_top.proofs.Going.{answered_as}
use Rattle.xs_top.proofs.Writable.{can_be_written}
use Rattle.xs_top.proofs.sheets.writable_pair_of.Goals as goal

pub returns-clause-writable : goal.returns-clause-writable
returns-clause-writable g = answered_as (λ p is. can_be_written g.words_can_be_written.ensures g.args.bytes.now p is) g.pair_of.result g.pair_of.ensures.pair
