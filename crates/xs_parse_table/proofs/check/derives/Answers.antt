use Rattle.std.proofs.Common.{◌<◌, length, arith}
use Rattle.xs_parse_table.proofs.Items.{right_next, right_table}
use Rattle.xs_parse_table.proofs.Marks.{some_from_test}
use Rattle.xs_parse_table.proofs.check.derives.Goals as goal

pub nodes-preserved : goal.nodes-preserved
nodes-preserved c =
    right_next c.args.g.now c.args.doc.now c.args.table.now.nodes.items c.as_slice-nodes.result.now c.args.table.now.parts.items c.nodes.v c.in-Ok.number _ c.as_slice-nodes.ensures.value c.in-Ok.ensures.1 (omega arith) (c.is_node.ensures c.if-not-is_node.false) c.nodes.invariant

pub returns : goal.returns
returns c = λ t.
    let some : 0 < length c.as_slice-nodes.result.now = some_from_test (length c.as_slice-nodes.result.now) c.is_empty.result c.is_empty.ensures c.if-is_empty.false in
    right_table c.args.g.now c.args.doc.now c.args.table.now c.as_slice-nodes.result.now c.nodes.v _ c.as_slice-nodes.ensures.value some (c.is_root.ensures c.if-not-is_root.false) (omega arith) c.nodes.invariant
