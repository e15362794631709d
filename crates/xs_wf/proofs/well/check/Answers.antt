use Rattle.xs_wf.proofs.Refusals.{before_eight}
use Rattle.xs_wf.proofs.well.check.Goals as goal

pub pass-requires-clause-before : goal.pass-requires-clause-before
pass-requires-clause-before c = before_eight c.args.sheet.now c.requires.passed
