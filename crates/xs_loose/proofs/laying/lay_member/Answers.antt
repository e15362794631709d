use Rattle.std.proofs.Common.{arith}
use Rattle.xs_loose.proofs.Moving.{grows_two, pass_from}
use Rattle.xs_loose.proofs.laying.lay_member.Goals as goal

pub returns-clause-grows : goal.returns-clause-grows
returns-clause-grows c = grows_two c.in_ok-pass.ensures c.in_ok-pass-2.ensures (pass_from (omega arith))
