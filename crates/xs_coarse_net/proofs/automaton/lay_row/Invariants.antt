use Rattle.std.proofs.Common.{ℕ, take, get_or}
use Rattle.std.specs.List.{Contains}
use Rattle.xs_coarse.specs.Coarse.{HasArc}
use Rattle.xs_coarse_net.specs.Going.{Grows}
use Rattle.xs_coarse_net.proofs.automaton.lay_row.Given as goal

abbrev pub invariant-targets : goal.invariant-targets
invariant-targets l = record {
  grows : Grows l.initial.draft l.draft;
  arcs : (k : ℕ) → Contains (take l.target-index l.targets) k → HasArc l.draft l.from (get_or l.labels k 0) (get_or l.states k 0);
}
