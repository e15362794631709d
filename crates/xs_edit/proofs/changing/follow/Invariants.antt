use Rattle.std.proofs.Common.{◌≡◌, take}
use Rattle.xs_earley.specs.Running.{IsRunOf}
use Rattle.xs_edit.proofs.changing.follow.Given as goal

abbrev pub invariant-symbols : goal.invariant-symbols
invariant-symbols l = record {
  run : IsRunOf l.g l.run;
  word : l.run.word ≡ take l.place l.doc;
}
