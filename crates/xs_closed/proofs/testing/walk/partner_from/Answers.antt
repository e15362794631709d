use Rattle.std.proofs.Common.{length}
use Rattle.xs_closed.proofs.LongestLemmas.{next_within}
use Rattle.xs_closed.proofs.testing.walk.partner_from.Goals as goal

pub returns-clause-within : goal.returns-clause-within
returns-clause-within c = next_within (length c.args.set.now.rows) c.args.set.now.wide c.args.set.now c.args.a _ c.next.result c.wide.ensures.sized c.next.ensures.some
