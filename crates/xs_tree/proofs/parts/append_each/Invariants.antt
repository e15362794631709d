use Rattle.std.proofs.Common.{◌≡◌, ◌≤◌, ◌++◌, take, vec_capacity}
use Rattle.xs_tree.proofs.parts.append_each.Given as goal

abbrev pub invariant-elements : goal.invariant-elements
invariant-elements g l = record {
  so_far : l.list.items ≡ l.initial.list.items ++ take l.element-index l.piece;
  room : vec_capacity l.initial.list ≤ vec_capacity l.list;
}
