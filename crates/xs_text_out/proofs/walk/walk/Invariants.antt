use Rattle.std.proofs.Common.{◌≡◌, ◌≤◌, ◌++◌, length, vec_capacity}
use Rattle.xs_gram.specs.Common.{print}
use Rattle.xs_tree.specs.Flat.{common_of}
use Rattle.xs_text_out.specs.Walk.{AreFalling, left_over, pending}
use Rattle.xs_text_out.proofs.walk.walk.Given as goal

abbrev pub invariant-tasks : goal.invariant-tasks
invariant-tasks l = record {
  whole : l.symbols.items ++ pending l.g l.pieces l.t l.tasks.items ≡ print l.g (common_of l.t);
  falling : AreFalling (length l.t.parts) l.tasks.items;
  room : length (print l.g (common_of l.t)) ≤ vec_capacity l.symbols;
  stack : length l.t.parts ≤ vec_capacity l.tasks;
}

abbrev pub decreases-tasks : goal.decreases-tasks
decreases-tasks l = left_over l.pieces l.tasks.items
