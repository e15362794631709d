use Rattle.xs_loose.proofs.Growing.{move_grows}
use Rattle.xs_loose.proofs.growth.pass.Goals as goal

pub returns : goal.returns
returns c = move_grows _ _ c.args.from c.args.to c.in_ok-pass.ensures.ok
