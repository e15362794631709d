use Rattle.xs_coarse_net.specs.Going.{goes_none, goes_read}
use Rattle.xs_coarse_net.proofs.Leaving.{joins_step}
use Rattle.xs_coarse_net.proofs.pieces.add_symbol.Goals as goal

pub returns-in_ok-step_net-in-Some-clause-goes : goal.returns-in_ok-step_net-in-Some-clause-goes
returns-in_ok-step_net-in-Some-clause-goes c = goes_read (joins_step c.args.net.now c.step_net.new.net c.in-Some.label c.in_ok-step_net-in-Some.ensures.joins) c.in-Some.ensures goes_none
