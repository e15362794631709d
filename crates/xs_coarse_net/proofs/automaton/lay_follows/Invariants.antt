use Rattle.std.proofs.Common.{ℕ, ◌<◌, get_or}
use Rattle.xs_regex.specs.Automaton.{Leads}
use Rattle.xs_coarse.specs.Coarse.{HasArc}
use Rattle.xs_coarse_net.specs.Going.{Grows}
use Rattle.xs_coarse_net.proofs.automaton.lay_follows.Given as goal

abbrev pub invariant-positions : goal.invariant-positions
invariant-positions l = record {
  grows : Grows l.initial.draft l.draft;
  arcs : (j k : ℕ) → j < l.position → Leads l.automaton j k → HasArc l.draft (get_or l.states j 0) (get_or l.labels k 0) (get_or l.states k 0);
}
