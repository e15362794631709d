use Rattle.xs_graph.specs.States.{state_of, work, IsState, KeepsSeen}
use Rattle.xs_graph.proofs.search.Search.run.Given as goal

abbrev pub invariant-frames : goal.invariant-frames
invariant-frames l = record {
  state : IsState l.graph (state_of l.self);
  seen : KeepsSeen l.initial.self.visits.items l.self.visits.items;
}

abbrev pub decreases-frames : goal.decreases-frames
decreases-frames l = work l.graph (state_of l.self)
