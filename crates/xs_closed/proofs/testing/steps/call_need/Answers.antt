use Rattle.std.proofs.Common.{sym}
use Rattle.xs_meet.specs.Closed.{Marked}
use Rattle.xs_closed.specs.Rows.{marked}
use Rattle.xs_closed.proofs.NeedLemmas.{joins_need}
use Rattle.xs_closed.proofs.testing.steps.call_need.Goals as goal

pub returns : goal.returns
returns c = joins_need c.args.set.now (Marked (marked c.args.related.now)) c.args.call c.args.other c.args.need c.pair_need.result (sym c.if-not-has.ensures) c.pair_need.ensures
