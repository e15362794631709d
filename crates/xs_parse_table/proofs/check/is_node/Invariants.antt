use Rattle.std.proofs.Common.{ℕ, ◌+◌, drop}
use Rattle.xs_parse_table.specs.Nodes.{ItemsEnd}
use Rattle.xs_parse_table.proofs.check.is_node.Given as goal

abbrev pub invariant-items : goal.invariant-items
invariant-items l =
    (end : ℕ) → ItemsEnd l.g l.doc l.table.nodes.items l.table.parts.items l.v (l.node.parts + l.dot) (drop l.dot l.items) l.at end
    → ItemsEnd l.g l.doc l.table.nodes.items l.table.parts.items l.v l.node.parts l.items l.node.from end
