use Rattle.xs_cover.specs.Tables.{total}
use Rattle.xs_cover.specs.Shortest.{AreRests}
use Rattle.xs_cover.proofs.words.settle.Given as goal

abbrev pub invariant-sweeps : goal.invariant-sweeps
invariant-sweeps l = AreRests l.automaton l.rests

abbrev pub decreases-sweeps : goal.decreases-sweeps
decreases-sweeps l = total l.rests
