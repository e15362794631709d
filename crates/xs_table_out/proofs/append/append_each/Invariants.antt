use Rattle.std.proofs.Common.{◌≡◌, ◌≤◌, ◌++◌, take, vec_capacity}
use Rattle.xs_table_out.proofs.append.append_each.Given as goal

abbrev pub invariant-elements : goal.invariant-elements
invariant-elements g l = record {
  so_far : l.list.items ≡ l.initial.list.items ++ take l.element-index l.part;
  room : vec_capacity l.initial.list ≤ vec_capacity l.list;
}
