use Rattle.std.proofs.Common.{get_or, refl}
use Rattle.xs_closed.specs.Search.{IsPair}
use Rattle.xs_closed.specs.Testing.{InRow}
use Rattle.xs_closed.proofs.NeedLemmas.{one_read, one_all, one_lacks}
use Rattle.xs_closed.proofs.testing.rows.firsts_need.Goals as goal

pub returns-in_err-need : goal.returns-in_err-need
returns-in_err-need c = rw c.from_residual.ensures (one_lacks c.args.set.now (λ x. InRow c.args.set.now c.args.a (IsPair x)) c.args.firsts.now c.firsts.first-index (get_or c.args.firsts.now c.firsts.first-index 0) 0 c.firsts-test.true refl c.in_err-need.ensures)

pub firsts-preserved : goal.firsts-preserved
firsts-preserved c = one_read c.args.set.now (λ x. InRow c.args.set.now c.args.a (IsPair x)) c.args.firsts.now c.firsts.first-index (get_or c.args.firsts.now c.firsts.first-index 0) 0 c.args.need c.firsts.need c.in_ok-need.need c.firsts-test.true refl c.firsts.invariant c.in_ok-need.ensures

pub returns : goal.returns
returns c = one_all c.args.set.now (λ x. InRow c.args.set.now c.args.a (IsPair x)) c.args.firsts.now c.firsts.first-index c.args.need c.firsts.need c.firsts-test.false c.firsts.invariant
