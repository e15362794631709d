use Rattle.xs_order.specs.Graphs.{IsGraphTo}
use Rattle.xs_order.proofs.graphs.graph_of.Given as goal

abbrev pub invariant-rules : goal.invariant-rules
invariant-rules l = IsGraphTo l.g l.targets l.rule l.rows.items
