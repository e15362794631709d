use Rattle.std.proofs.Common.{◌≡◌, length, drop}
use Rattle.xs_graph.specs.States.{close_all}
use Rattle.xs_graph.proofs.visit.close_all.Given as goal

abbrev pub invariant-nodes : goal.invariant-nodes
invariant-nodes l = record {
  sized : length l.visits ≡ length l.initial.visits;
  rest : close_all l.number l.visits (drop l.node-index l.nodes) ≡ close_all l.number l.initial.visits l.nodes;
}
