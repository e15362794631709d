use Rattle.std.proofs.Common.{◌≡◌, take}
use Rattle.xs_pair.specs.Grammars.{rule_parts, numbering_in}
use Rattle.xs_pair.proofs.outline.Outline.rule_parts.Given as goal

abbrev pub invariant-rules : goal.invariant-rules
invariant-rules l = l.parts.items ≡ rule_parts (numbering_in l.self l.names) l.side (take l.rule-index l.rules)
