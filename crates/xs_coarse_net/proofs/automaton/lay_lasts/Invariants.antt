use Rattle.std.proofs.Common.{◌≢◌, ℕ, take, get_or}
use Rattle.std.specs.List.{Contains}
use Rattle.xs_coarse.specs.Coarse.{HasArc}
use Rattle.xs_coarse_net.specs.Going.{Grows}
use Rattle.xs_coarse_net.proofs.automaton.lay_lasts.Given as goal

abbrev pub invariant-lasts : goal.invariant-lasts
invariant-lasts l = record {
  grows : Grows l.initial.draft l.draft;
  arcs : (k : ℕ) → Contains (take l.last-index l.lasts) k → get_or l.states k 0 ≢ l.to → HasArc l.draft (get_or l.states k 0) 0 l.to;
}
