use Rattle.std.proofs.Common.{◌≡◌, ◌≤◌, ◌++◌, vec_capacity}
use Rattle.xs_text_out.specs.Walk.{rest_word}
use Rattle.xs_text_out.proofs.Walking.{task_at}
use Rattle.xs_text_out.proofs.walk.print_pieces.Given as goal

abbrev pub invariant-pieces : goal.invariant-pieces
invariant-pieces l = record {
  so_far : l.symbols.items ++ rest_word l.g l.pieces l.t (task_at l.task.part l.place l.task.end) ≡ l.initial.symbols.items ++ rest_word l.g l.pieces l.t l.task;
  room : vec_capacity l.initial.symbols ≤ vec_capacity l.symbols;
}
