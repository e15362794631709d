use Rattle.std.proofs.Common.{◌≡◌, length}
use Rattle.xs_tree.specs.Flat.{trees_of}
use Rattle.xs_turn.specs.Tables.{AreNodeTrees, Grows}
use Rattle.xs_turn.proofs.Nodes.{Gathers}
use Rattle.xs_turn.proofs.table.place_all.Given as goal

abbrev pub invariant-items : goal.invariant-items
invariant-items l = record {
  long : length l.kids.items ≡ length l.fn.kids.items;
  grows : Grows (trees_of l.fn.builder) (trees_of l.builder);
  earlier : AreNodeTrees l.g l.doc l.table (trees_of l.builder) l.numbers;
  gathers : Gathers l.g l.doc l.table l.fn.node l.dot l.at (trees_of l.builder) l.kids.items;
}
