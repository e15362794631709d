use Rattle.std.proofs.Common.{◌≡◌, ◌≤◌, [], ◌∷◌, ◌++◌, length, vec_capacity}
use Rattle.xs_text_out.specs.Walk.{AreFalling, left_over, pending, rest_word}
use Rattle.xs_text_out.proofs.walk.perform.Given as goal

abbrev pub invariant-nodes : goal.invariant-nodes
invariant-nodes l = record {
  whole : l.symbols.items ++ (rest_word l.g l.pieces l.t l.task ++ pending l.g l.pieces l.t l.tasks.items) ≡ l.initial.symbols.items ++ (rest_word l.g l.pieces l.t l.initial.task ++ pending l.g l.pieces l.t l.initial.tasks.items);
  falling : AreFalling (length l.t.parts) (l.tasks.items ++ l.task ∷ []);
  less : left_over l.pieces (l.tasks.items ++ l.task ∷ []) ≤ left_over l.pieces (l.initial.tasks.items ++ l.initial.task ∷ []);
  room : vec_capacity l.initial.symbols ≤ vec_capacity l.symbols;
  stack : vec_capacity l.tasks ≡ vec_capacity l.initial.tasks;
}

abbrev pub decreases-nodes : goal.decreases-nodes
decreases-nodes l = l.task.part
