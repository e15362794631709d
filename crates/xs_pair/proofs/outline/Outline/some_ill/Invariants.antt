use Rattle.std.proofs.Common.{drop}
use Rattle.xs_pair.specs.Rules.{SomeOf}
use Rattle.xs_pair.specs.Verdict.{IsIllMark, tables_in}
use Rattle.xs_pair.proofs.outline.Outline.some_ill.Given as goal

abbrev pub invariant-marks : goal.invariant-marks
invariant-marks l = SomeOf (IsIllMark l.rule (tables_in l.self)) l.marks → SomeOf (IsIllMark l.rule (tables_in l.self)) (drop l.mark-index l.marks)
