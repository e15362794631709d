use Rattle.std.proofs.Common.{◌≡◌, length}
use Rattle.xs_tree.specs.Flat.{trees_of}
use Rattle.xs_turn.specs.Tables.{AreNodeTrees}
use Rattle.xs_turn.proofs.table.number_nodes.Given as goal

abbrev pub invariant-nodes : goal.invariant-nodes
invariant-nodes l = record {
  long : length l.numbers.items ≡ l.node-index;
  numbered : AreNodeTrees l.g l.doc l.table (trees_of l.builder) l.numbers.items;
}
