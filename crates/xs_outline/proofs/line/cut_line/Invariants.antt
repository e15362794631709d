use Rattle.std.proofs.Common.{take}
use Rattle.xs_outline.specs.Lines.{Lacks}
use Rattle.xs_outline.proofs.line.cut_line.Given as goal

abbrev pub invariant-symbols : goal.invariant-symbols
invariant-symbols l = record {
  space : Lacks 32 (take l.place l.text);
  feed : Lacks 10 (take l.place l.text);
}
