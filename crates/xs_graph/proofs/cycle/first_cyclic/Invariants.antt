use Rattle.std.proofs.Common.{ℕ, ◌<◌}
use Rattle.xs_graph.specs.Graphs.{IsCyclic}
use Rattle.xs_graph.proofs.cycle.first_cyclic.Given as goal

abbrev pub invariant-nodes : goal.invariant-nodes
invariant-nodes l = record { none : (a : ℕ) → a < l.node → IsCyclic l.graph a → ⊥ }
