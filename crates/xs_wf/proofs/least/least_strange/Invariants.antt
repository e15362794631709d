use Rattle.std.proofs.Common.{take}
use Rattle.xs_pair.specs.declared.production.Rule.{Rule}
use Rattle.xs_pair.specs.Verdict.{IsFirstLine, IsLineWhere}
use Rattle.xs_wf.specs.Units.{IsStrangeRule}
use Rattle.xs_wf.proofs.least.least_strange.Given as goal

abbrev pub invariant-rules : goal.invariant-rules
invariant-rules l = IsFirstLine (IsLineWhere (λ k r. IsStrangeRule r) (λ (r : Rule). r.line) (take l.rule-index l.rules)) l.least
