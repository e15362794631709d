use Rattle.std.proofs.Common.{ℕ, List, sym, subst, arith}
use Rattle.xs_tree.specs.Flat.{trees_of}
use Rattle.xs_turn.specs.Tables.{AreNodeTrees}
use Rattle.xs_turn.proofs.Nodes.{node_trees_next}
use Rattle.xs_turn.proofs.table.number_nodes.Goals as goal

pub nodes-preserved : goal.nodes-preserved
nodes-preserved c =
    let g = c.args.g.now in
    let doc = c.args.doc.now in
    let table = c.args.table.now in
    let a = trees_of c.nodes.builder in
    let b = trees_of c.add_node.new.builder in
    let numbers = c.nodes.numbers.items in
    let number = c.in-Some.number in
    let more = rw c.in-Some.is at c.in_ok-number.ensures.grows in
    let new = rw c.in-Some.is at c.in_ok-number.ensures.made in
    record {
      long = omega (arith, c.in_ok-push.ensures.len, c.nodes.invariant.long);
      numbered = subst (λ (l : List ℕ). AreNodeTrees g doc table b l) (sym c.in_ok-push.ensures.items)
          (node_trees_next g doc table a b numbers c.as_slice-nodes.result.now _ c.nodes.node-index number c.as_slice-nodes.ensures.value c.nodes.invariant.long c.nodes-test.true more c.nodes.invariant.numbered new);
    }
