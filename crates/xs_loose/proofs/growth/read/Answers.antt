use Rattle.xs_loose.proofs.Growing.{edge_grows}
use Rattle.xs_loose.proofs.growth.read.Goals as goal

pub returns : goal.returns
returns c = edge_grows _ _ c.args.from (record { class = c.args.class.now; to = c.args.to }) c.in_ok-edge.ensures.ok
