use Rattle.std.proofs.Common.{arith}
use Rattle.xs_loose.proofs.Moving.{grows_two, pass_to}
use Rattle.xs_loose.proofs.laying.lay_group.Goals as goal

pub returns-clause-grows : goal.returns-clause-grows
returns-clause-grows c = grows_two c.in_ok-call.ensures c.in_ok-pass.ensures (pass_to (omega arith))
