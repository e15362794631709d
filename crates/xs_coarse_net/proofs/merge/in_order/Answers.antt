use Rattle.xs_coarse.proofs.Rowing.{same_arcs}
use Rattle.xs_coarse_net.proofs.merge.in_order.Goals as goal

pub returns : goal.returns
returns c = same_arcs c.args.arcs.items _ c.sort_unstable_by_key.ensures.permutation
