use Rattle.std.proofs.Common.{◌≡◌, ℕ, ◌<◌, length, get_or}
use Rattle.xs_regex.specs.Automaton.{HasAt}
use Rattle.xs_coarse_net.specs.Going.{LabelReads}
use Rattle.xs_coarse_net.proofs.labelled.position_labels.Given as goal

abbrev pub invariant-positions : goal.invariant-positions
invariant-positions l = record {
  long : length l.names.items ≡ l.position;
  labels : (k s : ℕ) → k < l.position → HasAt l.automaton k s → LabelReads l.labels (get_or l.names.items k 0) s;
}
