use Rattle.std.proofs.Common.{◌≡◌, ◌≢◌, ℕ, ◌<◌, []}
use Rattle.xs_graph.specs.declared.visit.Visit.TheVariants.{Unseen}
use Rattle.xs_graph.specs.States.{state_of, visit_of, IsState}
use Rattle.xs_graph.proofs.component.search_all.Given as goal

abbrev pub invariant-nodes : goal.invariant-nodes
invariant-nodes l = record {
  state : IsState l.graph (state_of l.search);
  idle : l.search.path.items ≡ [];
  seen : (a : ℕ) → a < l.node → visit_of l.search.visits.items a ≢ Unseen;
}
