use Rattle.xs_order.specs.Runs.{AreSteps}
use Rattle.xs_order.proofs.words.steps.Given as goal

abbrev pub invariant-positions : goal.invariant-positions
invariant-positions l = AreSteps l.automaton l.position l.clauses.items
