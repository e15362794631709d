use Rattle.std.proofs.Common.{◌<◌, ◌≤◌, ◌+◌, length}
use Rattle.xs_regex.specs.Automaton.{Runs}
use Rattle.xs_cover.specs.Tables.{at}
use Rattle.xs_cover.proofs.words.word_from.Given as goal

abbrev pub invariant-positions : goal.invariant-positions
invariant-positions l = record {
  run : Runs l.automaton l.word l.position;
  within : l.position < length l.automaton.classes;
  near : at l.rests l.position < 1000;
  short : length l.word + at l.rests l.position ≤ at l.rests l.first + 1;
}

abbrev pub decreases-positions : goal.decreases-positions
decreases-positions l = at l.rests l.position
