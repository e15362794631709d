use Rattle.xs_order.proofs.Live.{are_productive}
use Rattle.xs_order.proofs.derived.productive.Goals as goal

pub returns : goal.returns
returns c = are_productive c.args.g.now c.in_ok-flags.flags c.in_ok-flags.ensures
