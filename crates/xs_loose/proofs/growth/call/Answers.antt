use Rattle.xs_loose.proofs.Growing.{call_grows}
use Rattle.xs_loose.proofs.growth.call.Goals as goal

pub returns : goal.returns
returns c = call_grows _ _ c.args.from (record { group = c.args.group; to = c.args.to }) c.in_ok-call.ensures.ok
