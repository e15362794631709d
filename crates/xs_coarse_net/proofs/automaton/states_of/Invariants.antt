use Rattle.std.proofs.Common.{◌≡◌, length}
use Rattle.xs_coarse_net.proofs.automaton.states_of.Given as goal

abbrev pub invariant-positions : goal.invariant-positions
invariant-positions l = record { same : l.draft ≡ l.initial.draft; long : length l.states.items ≡ l.row-index }
