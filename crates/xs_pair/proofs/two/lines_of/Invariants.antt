use Rattle.std.proofs.Common.{◌≡◌, take, map}
use Rattle.xs_pair.specs.declared.production.Rule.{Rule}
use Rattle.xs_pair.proofs.two.lines_of.Given as goal

abbrev pub invariant-rules : goal.invariant-rules
invariant-rules l = l.lines.items ≡ map (λ (r : Rule). r.line) (take l.rule-index l.rules)
