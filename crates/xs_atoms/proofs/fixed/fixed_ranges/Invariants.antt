use Rattle.std.proofs.Common.{◌≡◌, take}
use Rattle.xs_atoms.specs.Fixed.{rules_ranges}
use Rattle.xs_atoms.proofs.fixed.fixed_ranges.Given as goal

abbrev pub invariant-rules : goal.invariant-rules
invariant-rules l = l.ranges.items ≡ rules_ranges (take l.rule l.g.rules)
