use Rattle.std.proofs.Common.{take}
use Rattle.xs_outline.specs.Lines.{Lacks}
use Rattle.xs_outline.proofs.line.before.Given as goal

abbrev pub invariant-symbols : goal.invariant-symbols
invariant-symbols l = Lacks l.stop (take l.place l.text)
