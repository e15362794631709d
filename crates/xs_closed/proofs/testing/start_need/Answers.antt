use Rattle.std.proofs.Common.{sym}
use Rattle.xs_closed.proofs.CutLemmas.{starts_need}
use Rattle.xs_closed.proofs.testing.start_need.Goals as goal

pub returns-in-Some-Some : goal.returns-in-Some-Some
returns-in-Some-Some c = starts_need c.args.set.now c.args.m.now c.args.n.now c.in-Some-Some.a c.in-Some-Some.b c.pair_need.result (sym c.in-Some-Some.ensures.value) (sym c.in-Some-Some.ensures'.value) c.pair_need.ensures
