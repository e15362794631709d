use Rattle.std.proofs.Common.{◌≡◌, []}
use Rattle.xs_order.specs.Graphs.{AreByRule}
use Rattle.xs_order.proofs.graphs.no_edges.Given as goal

abbrev pub invariant-rows : goal.invariant-rows
invariant-rows l = AreByRule (λ _ row. row ≡ []) l.counter l.rows.items
