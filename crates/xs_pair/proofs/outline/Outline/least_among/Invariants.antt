use Rattle.std.proofs.Common.{take}
use Rattle.xs_pair.specs.Verdict.{IsFirstLine, FailsAmong, tables_in}
use Rattle.xs_pair.proofs.outline.Outline.least_among.Given as goal

abbrev pub invariant-rules : goal.invariant-rules
invariant-rules l = IsFirstLine (FailsAmong (tables_in l.self) (take l.rule-index l.rules) l.kind) l.least
