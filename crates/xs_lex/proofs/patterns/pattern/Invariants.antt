use Rattle.std.proofs.Common.{◌≡◌, ◌+◌, false, drop}
use Rattle.xs_lex.specs.Scan.{pattern_end}
use Rattle.xs_lex.proofs.patterns.pattern.Given as goal

abbrev pub invariant-units : goal.invariant-units
invariant-units l = pattern_end false 1 l.text ≡ pattern_end l.guarded (l.n + 1) (drop l.n l.text)
