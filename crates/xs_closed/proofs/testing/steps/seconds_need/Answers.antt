use Rattle.std.proofs.Common.{get_or, refl}
use Rattle.xs_closed.specs.Search.{IsPair}
use Rattle.xs_closed.proofs.NeedLemmas.{one_read, one_all, one_lacks}
use Rattle.xs_closed.proofs.testing.steps.seconds_need.Goals as goal

pub returns-in_err-need : goal.returns-in_err-need
returns-in_err-need c = rw c.from_residual.ensures (one_lacks c.args.set.now (IsPair c.args.c) c.args.seconds.now c.seconds.second-index (get_or c.args.seconds.now c.seconds.second-index 0) 0 c.seconds-test.true refl c.in_err-need.ensures)

pub seconds-preserved : goal.seconds-preserved
seconds-preserved c = one_read c.args.set.now (IsPair c.args.c) c.args.seconds.now c.seconds.second-index (get_or c.args.seconds.now c.seconds.second-index 0) 0 c.args.need c.seconds.need c.in_ok-need.need c.seconds-test.true refl c.seconds.invariant c.in_ok-need.ensures

pub returns : goal.returns
returns c = one_all c.args.set.now (IsPair c.args.c) c.args.seconds.now c.seconds.second-index c.args.need c.seconds.need c.seconds-test.false c.seconds.invariant
