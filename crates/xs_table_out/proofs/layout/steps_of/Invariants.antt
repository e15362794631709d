use Rattle.std.proofs.Common.{◌≡◌, length}
use Rattle.xs_table_out.specs.Steps.{AreStepRows}
use Rattle.xs_table_out.proofs.layout.steps_of.Given as goal

abbrev pub invariant-rules : goal.invariant-rules
invariant-rules l = record {
  long : length l.rows.items ≡ l.rule;
  rows : AreStepRows l.g l.h l.fn.pieces.text.items l.all.items l.rows.items;
}
