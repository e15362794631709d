use Rattle.std.proofs.Common.{drop}
use Rattle.xs_pair.specs.Rules.{SomeOf}
use Rattle.xs_wf.specs.Units.{IsStrangeMark}
use Rattle.xs_wf.proofs.units.some_strange.Given as goal

abbrev pub invariant-marks : goal.invariant-marks
invariant-marks l = SomeOf IsStrangeMark l.marks → SomeOf IsStrangeMark (drop l.mark-index l.marks)
