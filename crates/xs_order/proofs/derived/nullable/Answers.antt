use Rattle.xs_order.proofs.Empty.{are_nullable}
use Rattle.xs_order.proofs.derived.nullable.Goals as goal

pub returns : goal.returns
returns c = are_nullable c.args.g.now c.in_ok-flags.flags c.in_ok-flags.ensures
