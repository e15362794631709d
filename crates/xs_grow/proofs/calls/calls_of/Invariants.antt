use Rattle.xs_grow.specs.Lists.{HasAllOf}
use Rattle.xs_grow.specs.Candidates.{CallIn}
use Rattle.xs_grow.proofs.calls.calls_of.Given as goal

abbrev pub invariant-marks : goal.invariant-marks
invariant-marks l = HasAllOf (CallIn l.wholes l.t) l.calls
